-- Every MSIN is read as the protocol's type and subtype, and by its name but for five values; which values the crate passes though they are reserved.
-- Assumes nothing.
use Prim.Native.Nat.{ℕ, ◌<◌}
use native.Mathlib.Omega.{arith}
use mathlib.Core.Path.{◌≡◌, refl, sym, ap, ◌∙◌}
use mathlib.Core.Bool.{Bool, true, false}
use mathlib.Core.List.{List, [], ◌∷◌}
use lib.Dec.{eqb}
use lib.ListN.{get_or}
use borrow.Author.Tests.{eqb-true, eq-eqb}
use Rattle.headertype.specs.Bits.{no}
use Rattle.messageinfo.specs.MessageInfo.{known_level, log_level_of, application_trace_of, network_trace_of, control_of, message_type_by, message_type_of}
use Rattle.messageinfo.specs.Kept.{type_number_of, subtype_number_of}
use Rattle.headertype.proofs.Every.{tests}
use Rattle.messageinfo.proofs.Bytes.{type_kept, subtype_kept}
use Rattle.protocol.specs.Msin.{MSTP, MTIN, Name, name_of, later_name_of, named_as, reserved_set, other_name, other_later_name, unnamed}

-- ---- type and subtype
pub type_read : (m : ℕ) → m < 256 → type_number_of (message_type_of m) ≡ MSTP m
type_read m h = type_kept m h

pub subtype_read : (m : ℕ) → m < 256 → subtype_number_of (message_type_of m) ≡ MTIN m
subtype_read m h = subtype_kept m h ∙ omega arith

-- ---- names are told apart by a number
abbrev number : Name → ℕ
number Name.reserved = 0
number Name.fatal = 1
number Name.error = 2
number Name.warn = 3
number Name.info = 4
number Name.debug = 5
number Name.verbose = 6
number Name.variable = 7
number Name.function_in = 8
number Name.function_out = 9
number Name.state = 10
number Name.vfb = 11
number Name.ipc = 12
number Name.can = 13
number Name.flexray = 14
number Name.most = 15
number Name.ethernet = 16
number Name.someip = 17
number Name.user_defined = 18
number Name.resend = 19
number Name.request = 20
number Name.response = 21
number Name.time = 22

abbrev names : List Name
names =
    Name.reserved ∷ Name.fatal ∷ Name.error ∷ Name.warn ∷ Name.info ∷ Name.debug ∷ Name.verbose ∷ Name.variable ∷
    Name.function_in ∷ Name.function_out ∷ Name.state ∷ Name.vfb ∷ Name.ipc ∷ Name.can ∷ Name.flexray ∷ Name.most ∷
    Name.ethernet ∷ Name.someip ∷ Name.user_defined ∷ Name.resend ∷ Name.request ∷ Name.response ∷ Name.time ∷ []

again : (a : Name) → get_or names (number a) Name.reserved ≡ a
again Name.reserved = refl
again Name.fatal = refl
again Name.error = refl
again Name.warn = refl
again Name.info = refl
again Name.debug = refl
again Name.verbose = refl
again Name.variable = refl
again Name.function_in = refl
again Name.function_out = refl
again Name.state = refl
again Name.vfb = refl
again Name.ipc = refl
again Name.can = refl
again Name.flexray = refl
again Name.most = refl
again Name.ethernet = refl
again Name.someip = refl
again Name.user_defined = refl
again Name.resend = refl
again Name.request = refl
again Name.response = refl
again Name.time = refl

-- whether two names are one, and that they are then
abbrev pub alike : Name → Name → Bool
alike a b = eqb (number a) (number b)

pub alike_is : (a b : Name) → alike a b ≡ true → a ≡ b
alike_is a b e = sym (again a) ∙ ap (λ n. get_or names n Name.reserved) (eqb-true (number a) (number b) e) ∙ again b

pub is_alike : (a b : Name) → a ≡ b → alike a b ≡ true
is_alike a b e = eq-eqb (number a) (number b) (ap number e)

-- ---- the crate's name is the protocol's everywhere but in the set other_name, and nowhere there. The protocol's names of network traces are libdlt's table
pub named : (m : ℕ) → m < 256 → alike (named_as (message_type_of m)) (name_of m) ≡ no (other_name m)
unfolding message_type_by known_level log_level_of application_trace_of network_trace_of control_of
named m h = tests (λ m. alike (named_as (message_type_of m)) (name_of m)) (λ m. no (other_name m)) 256 refl m h

pub named_later : (m : ℕ) → m < 256 → alike (named_as (message_type_of m)) (later_name_of m) ≡ no (other_later_name m)
unfolding message_type_by known_level log_level_of application_trace_of network_trace_of control_of
named_later m h = tests (λ m. alike (named_as (message_type_of m)) (later_name_of m)) (λ m. no (other_later_name m)) 256 refl m h

pub same_name : (m : ℕ) → m < 256 → other_name m ≡ false → named_as (message_type_of m) ≡ name_of m
same_name m h e = alike_is _ _ (named m h ∙ ap no e)

-- ---- the reserved values, all of which the crate passes, and those to which it gives no name
pub reserved_values : (m : ℕ) → m < 256 → alike (name_of m) Name.reserved ≡ reserved_set m
reserved_values m h = tests (λ m. alike (name_of m) Name.reserved) reserved_set 256 refl m h

pub unnamed_values : (m : ℕ) → m < 256 → alike (named_as (message_type_of m)) Name.reserved ≡ unnamed m
unfolding message_type_by known_level log_level_of application_trace_of network_trace_of control_of
unnamed_values m h = tests (λ m. alike (named_as (message_type_of m)) Name.reserved) unnamed 256 refl m h
