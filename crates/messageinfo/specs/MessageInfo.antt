-- Document 01, step 4: the message info byte. Bit 0 is verbose, bits 1 to 3 the type, 4 to 7 the subtype.
-- Every byte has a message type: none is refused (reasons, `no-info-refused`).
use Rattle.std.specs.Prelude.{ℕ, ◌/◌, ◌%◌, eqb, Option, Some, None}
use Rattle.wire.specs.Parser.{pick}
use Rattle.messageinfo.specs.declared.LogLevel.{LogLevel}
use Rattle.messageinfo.specs.declared.ApplicationTraceType.{ApplicationTraceType}
use Rattle.messageinfo.specs.declared.NetworkTraceType.{NetworkTraceType}
use Rattle.messageinfo.specs.declared.ControlType.{ControlType}
use Rattle.messageinfo.specs.declared.MessageType.{MessageType}

-- the levels by their number
unfoldable pub known_level : ℕ → Option LogLevel
known_level n =
    pick (eqb n 1) (Some LogLevel.Fatal)
    (pick (eqb n 2) (Some LogLevel.Error)
    (pick (eqb n 3) (Some LogLevel.Warn)
    (pick (eqb n 4) (Some LogLevel.Info)
    (pick (eqb n 5) (Some LogLevel.Debug)
    (pick (eqb n 6) (Some LogLevel.Verbose) None)))))

-- a number that is no level's is kept
abbrev pub level_or : ℕ → Option LogLevel → LogLevel
level_or n (Some level) = level
level_or n None = LogLevel.Invalid n

unfoldable pub log_level_of : ℕ → LogLevel
log_level_of n = level_or n (known_level n)

unfoldable pub application_trace_of : ℕ → ApplicationTraceType
application_trace_of n =
    pick (eqb n 1) ApplicationTraceType.Variable
    (pick (eqb n 2) ApplicationTraceType.FunctionIn
    (pick (eqb n 3) ApplicationTraceType.FunctionOut
    (pick (eqb n 4) ApplicationTraceType.State
    (pick (eqb n 5) ApplicationTraceType.Vfb (ApplicationTraceType.Invalid n)))))

unfoldable pub network_trace_of : ℕ → NetworkTraceType
network_trace_of n =
    pick (eqb n 0) NetworkTraceType.Invalid
    (pick (eqb n 1) NetworkTraceType.Ipc
    (pick (eqb n 2) NetworkTraceType.Can
    (pick (eqb n 3) NetworkTraceType.Flexray
    (pick (eqb n 4) NetworkTraceType.Most
    (pick (eqb n 5) NetworkTraceType.Ethernet
    (pick (eqb n 6) NetworkTraceType.Someip (NetworkTraceType.UserDefined n)))))))

-- of a subtype, and of the one id byte of a control message
unfoldable pub control_of : ℕ → ControlType
control_of n = pick (eqb n 1) ControlType.Request (pick (eqb n 2) ControlType.Response (ControlType.Unknown n))

-- by type and subtype
unfoldable pub message_type_by : ℕ → ℕ → MessageType
message_type_by type subtype =
    pick (eqb type 0) (MessageType.Log (log_level_of subtype))
    (pick (eqb type 1) (MessageType.ApplicationTrace (application_trace_of subtype))
    (pick (eqb type 2) (MessageType.NetworkTrace (network_trace_of subtype))
    (pick (eqb type 3) (MessageType.Control (control_of subtype)) (MessageType.Unknown type subtype))))

abbrev pub message_type_of : ℕ → MessageType
message_type_of info = message_type_by (info / 2 % 8) (info / 16)
