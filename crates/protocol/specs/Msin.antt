-- MSIN, the message info of the extended header: bit 0 VERB, bits 1 to 3 MSTP (message type), bits 4 to 7 MTIN (message type info).
use Rattle.std.specs.Prelude.{ℕ, ◌/◌, ◌%◌, Bool, true, eqb}
use Rattle.wire.specs.Parser.{pick}
use Rattle.headertype.specs.Bits.{flag, no, both, either, from_to}
use Rattle.messageinfo.specs.declared.LogLevel.{LogLevel}
use Rattle.messageinfo.specs.declared.ApplicationTraceType.{ApplicationTraceType}
use Rattle.messageinfo.specs.declared.NetworkTraceType.{NetworkTraceType}
use Rattle.messageinfo.specs.declared.ControlType.{ControlType}
use Rattle.messageinfo.specs.declared.MessageType.{MessageType}

abbrev pub VERB : ℕ → Bool
VERB msin = flag 1 msin

abbrev pub MSTP : ℕ → ℕ
MSTP msin = msin / 2 % 8

abbrev pub MTIN : ℕ → ℕ
MTIN msin = msin / 16 % 16

-- ---- the names of the protocol, and the lack of one
pub data Name : Type 0 where
  reserved : Name
  fatal : Name
  error : Name
  warn : Name
  info : Name
  debug : Name
  verbose : Name
  variable : Name
  function_in : Name
  function_out : Name
  state : Name
  vfb : Name
  ipc : Name
  can : Name
  flexray : Name
  most : Name
  ethernet : Name
  someip : Name
  user_defined : Name
  resend : Name
  request : Name
  response : Name
  time : Name

-- MSTP 0, log messages
abbrev pub log_name : ℕ → Name
log_name n =
    pick (eqb n 1) Name.fatal
    (pick (eqb n 2) Name.error
    (pick (eqb n 3) Name.warn
    (pick (eqb n 4) Name.info
    (pick (eqb n 5) Name.debug
    (pick (eqb n 6) Name.verbose Name.reserved)))))

-- MSTP 1, application trace
abbrev pub trace_name : ℕ → Name
trace_name n =
    pick (eqb n 1) Name.variable
    (pick (eqb n 2) Name.function_in
    (pick (eqb n 3) Name.function_out
    (pick (eqb n 4) Name.state
    (pick (eqb n 5) Name.vfb Name.reserved))))

-- MSTP 2, network trace: libdlt's table, and tshark's. That AUTOSAR's own is the same is recalled, not read
abbrev pub network_name : ℕ → Name
network_name n =
    pick (eqb n 1) Name.ipc
    (pick (eqb n 2) Name.can
    (pick (eqb n 3) Name.flexray
    (pick (eqb n 4) Name.most
    (pick (from_to 8 14 n) Name.user_defined
    (pick (eqb n 15) Name.resend Name.reserved)))))

-- [memory] R19-11 and later name 5 and 6
abbrev pub later_network_name : ℕ → Name
later_network_name n = pick (eqb n 5) Name.ethernet (pick (eqb n 6) Name.someip (network_name n))

-- MSTP 3, control messages
abbrev pub control_name : ℕ → Name
control_name n =
    pick (eqb n 1) Name.request
    (pick (eqb n 2) Name.response
    (pick (eqb n 3) Name.time Name.reserved))

-- MSTP 4 to 7 are reserved
abbrev pub name_by : (ℕ → Name) → ℕ → Name
name_by network msin =
    pick (eqb (MSTP msin) 0) (log_name (MTIN msin))
    (pick (eqb (MSTP msin) 1) (trace_name (MTIN msin))
    (pick (eqb (MSTP msin) 2) (network (MTIN msin))
    (pick (eqb (MSTP msin) 3) (control_name (MTIN msin)) Name.reserved)))

abbrev pub name_of : ℕ → Name
name_of msin = name_by network_name msin

abbrev pub later_name_of : ℕ → Name
later_name_of msin = name_by later_network_name msin

-- ---- the crate's cases by the protocol's names; its Invalid and Unknown are no name
abbrev pub level_as : LogLevel → Name
level_as LogLevel.Fatal = Name.fatal
level_as LogLevel.Error = Name.error
level_as LogLevel.Warn = Name.warn
level_as LogLevel.Info = Name.info
level_as LogLevel.Debug = Name.debug
level_as LogLevel.Verbose = Name.verbose
level_as (LogLevel.Invalid n) = Name.reserved

abbrev pub trace_as : ApplicationTraceType → Name
trace_as ApplicationTraceType.Variable = Name.variable
trace_as ApplicationTraceType.FunctionIn = Name.function_in
trace_as ApplicationTraceType.FunctionOut = Name.function_out
trace_as ApplicationTraceType.State = Name.state
trace_as ApplicationTraceType.Vfb = Name.vfb
trace_as (ApplicationTraceType.Invalid n) = Name.reserved

abbrev pub network_as : NetworkTraceType → Name
network_as NetworkTraceType.Ipc = Name.ipc
network_as NetworkTraceType.Can = Name.can
network_as NetworkTraceType.Flexray = Name.flexray
network_as NetworkTraceType.Most = Name.most
network_as NetworkTraceType.Ethernet = Name.ethernet
network_as NetworkTraceType.Someip = Name.someip
network_as NetworkTraceType.Invalid = Name.reserved
network_as (NetworkTraceType.UserDefined n) = Name.user_defined

abbrev pub control_as : ControlType → Name
control_as ControlType.Request = Name.request
control_as ControlType.Response = Name.response
control_as (ControlType.Unknown n) = Name.reserved

abbrev pub named_as : MessageType → Name
named_as (MessageType.Log l) = level_as l
named_as (MessageType.ApplicationTrace t) = trace_as t
named_as (MessageType.NetworkTrace t) = network_as t
named_as (MessageType.Control t) = control_as t
named_as (MessageType.Unknown t n) = Name.reserved

-- ---- the sets
-- the values that the protocol reserves: the crate passes each of them
abbrev pub reserved_set : ℕ → Bool
reserved_set msin =
    pick (eqb (MSTP msin) 0) (no (from_to 1 6 (MTIN msin)))
    (pick (eqb (MSTP msin) 1) (no (from_to 1 5 (MTIN msin)))
    (pick (eqb (MSTP msin) 2) (either (eqb (MTIN msin) 0) (from_to 5 7 (MTIN msin)))
    (pick (eqb (MSTP msin) 3) (no (from_to 1 3 (MTIN msin))) true)))

-- where the crate's name is another than the protocol's: network trace 5, 6, 7 and 15 by libdlt's table, and the control message of the time
abbrev pub other_name : ℕ → Bool
other_name msin =
    either (both (eqb (MSTP msin) 2) (either (from_to 5 7 (MTIN msin)) (eqb (MTIN msin) 15)))
    (both (eqb (MSTP msin) 3) (eqb (MTIN msin) 3))

-- the same with the later names of 5 and 6
abbrev pub other_later_name : ℕ → Bool
other_later_name msin =
    either (both (eqb (MSTP msin) 2) (either (eqb (MTIN msin) 7) (eqb (MTIN msin) 15)))
    (both (eqb (MSTP msin) 3) (eqb (MTIN msin) 3))

-- where the crate has no name: the reserved values but for network trace 5, 6 and 7, and the time
abbrev pub unnamed : ℕ → Bool
unnamed msin =
    either (both (reserved_set msin) (no (both (eqb (MSTP msin) 2) (from_to 5 7 (MTIN msin)))))
    (both (eqb (MSTP msin) 3) (eqb (MTIN msin) 3))
