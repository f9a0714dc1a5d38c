-- Document 01, step 7: the payload.
use Rattle.std.specs.Prelude.{ℕ, ◌-◌, Bool, true, false, leb, Option, Some, None}
use Rattle.wire.specs.Answer.{Parser}
use Rattle.wire.specs.Parser.{pick, ret, fail, here, choose, ◌>>=◌}
use Rattle.wire.specs.Number.{number}
use Rattle.wire.specs.Run.{bytes}
use Rattle.messageinfo.specs.MessageInfo.{control_of}
use Rattle.messageinfo.specs.declared.MessageType.{MessageType}
use Rattle.cursor.specs.Cursor.{arguments, cursor}
use Rattle.cursor.specs.Raw.{raw_cursor}
use Rattle.payload.specs.declared.PayloadContent.{PayloadContent}
use Rattle.messageinfo.specs.declared.ExtendedHeader.{ExtendedHeader}

-- what the extended header says of the payload; without one it is not verbose and of no type
unfoldable pub is_verbose_of : Option ExtendedHeader → Bool
is_verbose_of (Some x) = x.verbose
is_verbose_of None = false

unfoldable pub count_of : Option ExtendedHeader → ℕ
count_of (Some x) = x.argument_count
count_of None = 0

unfoldable pub control_type_of : MessageType → Bool
control_type_of (MessageType.Log l) = false
control_type_of (MessageType.ApplicationTrace t) = false
control_type_of (MessageType.NetworkTrace t) = false
control_type_of (MessageType.Control t) = true
control_type_of (MessageType.Unknown t n) = false

unfoldable pub network_type_of : MessageType → Bool
network_type_of (MessageType.Log l) = false
network_type_of (MessageType.ApplicationTrace t) = false
network_type_of (MessageType.NetworkTrace t) = true
network_type_of (MessageType.Control t) = false
network_type_of (MessageType.Unknown t n) = false

unfoldable pub is_control_of : Option ExtendedHeader → Bool
is_control_of (Some x) = control_type_of x.message_type
is_control_of None = false

unfoldable pub is_network_of : Option ExtendedHeader → Bool
is_network_of (Some x) = network_type_of x.message_type
is_network_of None = false

-- the arguments as a cursor; of a network trace only raw values are kept
unfoldable pub list_of : Bool → ℕ → ℕ → Bool → PayloadContent
list_of network at left big = pick network (PayloadContent.NetworkTrace (raw_cursor at left big)) (PayloadContent.Verbose (cursor at left big))

-- verbose: as many arguments as counted, read from all bytes that follow; bytes used end at the last argument. A network trace must have every argument read too
unfoldable pub verbose : Bool → ℕ → Bool → Parser PayloadContent
verbose big count network = do
  start ← here
  passed ← arguments big count
  ret (list_of network start count big)

-- control type: payload 0 is Unrecoverable; one id byte, then the rest
unfoldable pub control : ℕ → Parser PayloadContent
control n = choose (leb 1 n) (do
  id ← number true 1
  rest ← bytes (n - 1)
  ret (PayloadContent.ControlMsg (control_of id) rest)) fail

-- else: payload under 4 is Unrecoverable; a 32-bit id in payload byte order, then the rest
unfoldable pub plain : Bool → ℕ → Parser PayloadContent
plain big n = choose (leb 4 n) (do
  id ← number big 4
  rest ← bytes (n - 4)
  ret (PayloadContent.NonVerbose id rest)) fail

unfoldable pub payload : Bool → Option ExtendedHeader → ℕ → Parser PayloadContent
payload big e n = choose (is_verbose_of e) (verbose big (count_of e) (is_network_of e)) (choose (is_control_of e) (control n) (plain big n))
