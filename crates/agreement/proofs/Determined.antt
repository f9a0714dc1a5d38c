-- The bytes determine the headers: what agrees with them is one range, one text, and one header.
use Prim.Native.Nat.{ℕ}
use native.Mathlib.Omega.{arith}
use mathlib.Core.Path.{◌≡◌, refl, sym, ap, ap₂, ◌∙◌}
use mathlib.Core.Bool.{true, false}
use mathlib.Core.List.{List}
use lib.ListN.{length, drop, length-take, length-drop}
use Rattle.wire.specs.Run.{range}
use Rattle.wire.specs.declared.Ended.{Ended}
use Rattle.wire.specs.declared.Range.{Range}
use Rattle.wire.specs.declared.Text.{Text}
use Rattle.headertype.specs.declared.StandardHeader.{StandardHeader}
use Rattle.messageinfo.specs.declared.ExtendedHeader.{ExtendedHeader}
use Rattle.protocol.specs.Fields.{Field, width, field_bytes}
use Rattle.agreement.specs.Identifier.{end_in}
use Rattle.agreement.specs.Agree.{htyp_of, bytes_of, IdField, MaybeIdField, StandardAgrees, ExtendedAgrees}
use Rattle.agreement.proofs.Text.{one_identifier}
use Rattle.std.specs.Prelude.{Option, Some, None}

module _ (f : Field) (s : List ℕ) (at : ℕ) where
  id_length_lem : (t : Text) → IdField f s at t → length (bytes_of t.place s) ≡ t.place.len
  id_length_lem t i = omega (arith, i.inside, length-take t.place.len (drop t.place.start s), length-drop t.place.start s)

  pub one_range : (t u : Text) → IdField f s at t → IdField f s at u → t.place ≡ u.place
  one_range t u i j =
      let same = one_identifier _ _ _ i.bytes j.bytes in
      ap₂ range (i.starts ∙ sym j.starts) (sym (id_length_lem t i) ∙ ap length same ∙ id_length_lem u j)

  pub one_text : (t u : Text) → IdField f s at t → IdField f s at u → t ≡ u
  one_text t u i j =
      let same = one_identifier _ _ _ i.bytes j.bytes in
      let why : t.ended ≡ u.ended = i.why ∙ ap (end_in (width f) (field_bytes f (htyp_of s at) s at)) same ∙ sym j.why in
      ap₂ (λ (p : Range) (w : Ended). record { place = p; ended = w }) (one_range t u i j) why

  one_maybe : (o p : Option Text) → MaybeIdField f s at o → MaybeIdField f s at p → o ≡ p
  one_maybe (Some r) (Some q) i j = ap Some (one_text r q i.1 j.1)
  one_maybe (Some r) None i j =
      let z : true ≡ false = sym i.0 ∙ j in
      let y : ◌≡◌ {A = ℕ} 0 1 = cc in
      absurd (omega arith)
  one_maybe None (Some q) i j =
      let z : true ≡ false = sym j.0 ∙ i in
      let y : ◌≡◌ {A = ℕ} 0 1 = cc in
      absurd (omega arith)
  one_maybe None None i j = refl

module _ (s : List ℕ) (at : ℕ) where
  pub one_standard : (h g : StandardHeader) (m n : ℕ) → StandardAgrees s at h m → StandardAgrees s at g n → h ≡ g
  one_standard h g m n a b =
      let vers : h.version ≡ g.version = a.vers ∙ sym b.vers in
      let msbf : h.endianness ≡ g.endianness = a.msbf ∙ sym b.msbf in
      let ueh : h.has_extended_header ≡ g.has_extended_header = a.ueh ∙ sym b.ueh in
      let mcnt : h.message_counter ≡ g.message_counter = a.mcnt ∙ sym b.mcnt in
      let ecu : h.ecu_id ≡ g.ecu_id = one_maybe Field.ECU s at _ _ a.ecu b.ecu in
      let seid : h.session_id ≡ g.session_id = a.seid ∙ sym b.seid in
      let tmsp : h.timestamp ≡ g.timestamp = a.tmsp ∙ sym b.tmsp in
      let len : h.payload_length ≡ g.payload_length = a.len ∙ sym b.len in
      λ i. record {
        version = vers i;
        endianness = msbf i;
        has_extended_header = ueh i;
        message_counter = mcnt i;
        ecu_id = ecu i;
        session_id = seid i;
        timestamp = tmsp i;
        payload_length = len i;
      }

  pub one_extended : (x y : ExtendedHeader) (m n : ℕ) → ExtendedAgrees s at x m → ExtendedAgrees s at y n → x ≡ y
  one_extended x y m n a b =
      let verb : x.verbose ≡ y.verbose = a.verb ∙ sym b.verb in
      let noar : x.argument_count ≡ y.argument_count = a.noar ∙ sym b.noar in
      let msin : x.message_type ≡ y.message_type = a.msin ∙ sym b.msin in
      let apid : x.application_id ≡ y.application_id = one_text Field.APID s at _ _ a.apid b.apid in
      let ctid : x.context_id ≡ y.context_id = one_text Field.CTID s at _ _ a.ctid b.ctid in
      λ i. record {
        verbose = verb i;
        argument_count = noar i;
        message_type = msin i;
        application_id = apid i;
        context_id = ctid i;
      }
