-- What a message type still says of the byte that it was made of: the numbers of its type and subtype.
use Rattle.std.specs.Prelude.{ℕ, ◌+◌, ◌*◌}
use Rattle.messageinfo.specs.Level.{number}
use Rattle.messageinfo.specs.declared.ApplicationTraceType.{ApplicationTraceType}
use Rattle.messageinfo.specs.declared.NetworkTraceType.{NetworkTraceType}
use Rattle.messageinfo.specs.declared.ControlType.{ControlType}
use Rattle.messageinfo.specs.declared.MessageType.{MessageType}

abbrev pub application_number_of : ApplicationTraceType → ℕ
application_number_of ApplicationTraceType.Variable = 1
application_number_of ApplicationTraceType.FunctionIn = 2
application_number_of ApplicationTraceType.FunctionOut = 3
application_number_of ApplicationTraceType.State = 4
application_number_of ApplicationTraceType.Vfb = 5
application_number_of (ApplicationTraceType.Invalid n) = n

abbrev pub network_number_of : NetworkTraceType → ℕ
network_number_of NetworkTraceType.Ipc = 1
network_number_of NetworkTraceType.Can = 2
network_number_of NetworkTraceType.Flexray = 3
network_number_of NetworkTraceType.Most = 4
network_number_of NetworkTraceType.Ethernet = 5
network_number_of NetworkTraceType.Someip = 6
network_number_of NetworkTraceType.Invalid = 0
network_number_of (NetworkTraceType.UserDefined n) = n

abbrev pub control_number_of : ControlType → ℕ
control_number_of ControlType.Request = 1
control_number_of ControlType.Response = 2
control_number_of (ControlType.Unknown n) = n

abbrev pub type_number_of : MessageType → ℕ
type_number_of (MessageType.Log level) = 0
type_number_of (MessageType.ApplicationTrace t) = 1
type_number_of (MessageType.NetworkTrace t) = 2
type_number_of (MessageType.Control t) = 3
type_number_of (MessageType.Unknown t n) = t

abbrev pub subtype_number_of : MessageType → ℕ
subtype_number_of (MessageType.Log level) = number level
subtype_number_of (MessageType.ApplicationTrace t) = application_number_of t
subtype_number_of (MessageType.NetworkTrace t) = network_number_of t
subtype_number_of (MessageType.Control t) = control_number_of t
subtype_number_of (MessageType.Unknown t n) = n

-- the byte without its verbose bit
abbrev pub byte_of : MessageType → ℕ
byte_of t = type_number_of t * 2 + subtype_number_of t * 16
