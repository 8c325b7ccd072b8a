-- The replies of `normal_form`: a refusal of the sheet, an output that is too short, the form written.
use Rattle.std.specs.Prelude.{ℕ, ◌+◌, ◌/◌, ◌<◌, ◌≤◌, ◌≡◌, Bool, true, false, cond, List, ◌++◌, length, leb, Result, Ok, Err}
use Rattle.std.proofs.Common.{arith, refl, sym, ap, subst, ◌∙◌}
use mathlib.Core.List.{append_assoc}
use lib.Seq.{take_all}
use borrow.Author.Tests.{le-leb, lt-leb}
use Rattle.refusals.specs.declared.Refusal.{Refusal}
use Rattle.refusals.specs.declared.Refusal.TheVariants.{NoRoom}
use Rattle.refusals.specs.Refusals.{number}
use Rattle.lists.specs.Lists.{each, Each}
use Rattle.lists.proofs.LengthLaws.{each_length}
use Rattle.bits.specs.Bits.{bits}
use Rattle.bits.specs.Put.{packed_over}
use Rattle.meaning.specs.Sheets.{Policy, Sheet, kind_of}
use Rattle.meaning.specs.Packed.{policy_bits, count_bits, fact_bits, sheet_bits, packed}
use Rattle.meaning.specs.Reading.{Read, found, refused, read_sheet}
use Rattle.meaning.specs.Steps.{NormalPolicy, NormalSheet}
use Rattle.meaning.specs.Replies.{asks, ◌>>=◌, ◌>>◌, need, whole, Replies, Refused, over, asked_normal, NormalFormReply}
use Rattle.meaning.specs.Demands.{Accepted}
use Rattle.meaning.proofs.SheetLaws.{accepted_as, packed_length}
use Rattle.meaning.proofs.RefusalLaws.{no_longer}
use Rattle.packing.specs.Wrote.{Wrote}
use Rattle.normal.specs.Written.{PoliciesWritten}

module _ (s out : List ℕ) where
  abbrev done : ℕ → Result ℕ Refusal
  done n = Ok n

  abbrev Form : Result ℕ Refusal → List ℕ → Sheet → Type 0
  Form reply after sheet =
      (normal : Sheet) × NormalSheet sheet normal
      × cond (leb (length (packed normal)) (length s)) ((reply ≡ Ok (length (packed normal))) × (after ≡ over (packed normal) out)) (Refused 16 reply × (after ≡ out))

  -- the reply to what reading finds and the test of the lengths
  by_reading : (reply : Result ℕ Refusal) (after : List ℕ) (x : Read Sheet) (b : Bool) → read_sheet s ≡ x → leb (length s) (length out) ≡ b
      → Replies (whole x >>= λ sheet. need b 14 >> asks sheet) (λ n. Refused n reply × (after ≡ out)) (Form reply after) → NormalFormReply s out reply after
  unfolding NormalFormReply asked_normal
  by_reading reply after x b e f r = rw (e, f) r

  pub form_refused : (e : Refusal) → read_sheet s ≡ refused (number e) → NormalFormReply s out (Err e) out
  form_refused e r = by_reading (Err e) out (refused (number e)) (leb (length s) (length out)) r refl (refl, refl)

  module _ (sheet : Sheet) (accepted : Accepted s sheet) where
    pub form_short : length out < length s → NormalFormReply s out (Err NoRoom) out
    form_short h = by_reading (Err NoRoom) out (found sheet accepted.0) false accepted.1 (lt-leb (length s) (length out) h) (refl, refl)

    -- what is written is the packed form of `normal`, over the output
    pub form_written : length s ≤ length out → (normal : Sheet) → NormalSheet sheet normal → (after : List ℕ) (p : ℕ) → Wrote out (sheet_bits normal) after p
        → NormalFormReply s out (Ok ((p + 7) / 8)) after
    unfolding packed packed_over
    form_written h normal n after p w =
        let a : length (packed normal) ≤ length s = no_longer s sheet normal accepted n in
        let l : length (packed normal) ≡ (length (sheet_bits normal) + 7) / 8 = packed_length normal in
        let acc = accepted_as s sheet accepted in
        let m : length (packed sheet) ≤ 16384 = acc.allowed.short in
        let i : length (packed sheet) ≡ length s = acc.as_long in
        let k = w (omega arith) (omega arith) in
        by_reading (Ok ((p + 7) / 8)) after (found sheet accepted.0) true accepted.1 (le-leb (length s) (length out) h) (
          normal,
          n,
          subst (λ b. cond b ((done ((p + 7) / 8) ≡ done (length (packed normal))) × (after ≡ over (packed normal) out)) (Refused 16 (done ((p + 7) / 8)) × (after ≡ out)))
              (sym (le-leb (length (packed normal)) (length s) a))
              (ap (λ (q : ℕ). done ((q + 7) / 8)) k.0 ∙ ap done (sym l), k.1),
        )

    -- facts and policies together are a sheet's bits
    pub sheet_written : length s ≤ length out → (after : List ℕ) (p : ℕ) → PoliciesWritten sheet (length sheet.policies) out (count_bits sheet ++ fact_bits sheet) after p
        → NormalFormReply s out (Ok ((p + 7) / 8)) after
    unfolding sheet_bits
    sheet_written h after p w =
        let each-normal : Each (NormalPolicy sheet) sheet.policies w.normals = subst (λ (ps : List Policy). Each (NormalPolicy sheet) ps w.normals) (take_all (length sheet.policies) sheet.policies (omega arith)) w.are_normal in
        let normal : Sheet = record { columns = sheet.columns; keys = sheet.keys; tables = sheet.tables; policies = w.normals } in
        let m : length w.normals ≡ length sheet.policies = each_length each-normal in
        let counts : count_bits sheet ≡ count_bits normal = ap (λ (n : ℕ). bits 4 1 ++ (bits 5 (length sheet.columns) ++ (bits 4 (length sheet.keys) ++ (bits 5 (length sheet.tables) ++ bits 5 n)))) (sym m) in
        form_written h normal (record { columns = refl; keys = refl; tables = refl; policies = each-normal }) after p
        (subst (λ (x : List ℕ). Wrote out x after p)
        (append_assoc (count_bits sheet) (fact_bits sheet) (each (policy_bits (kind_of sheet)) w.normals) ∙ ap (λ (x : List ℕ). x ++ (fact_bits sheet ++ each (policy_bits (kind_of sheet)) w.normals)) counts)
        w.wrote)
