use Rattle.std.proofs.Common.{rules, ◌≡◌, ℕ, ◌+◌, ◌≤◌, List, ◌++◌, length, take, sym, ap, ◌∙◌, subst, length-take-le}
use Rattle.std.proofs.lemmas.List.{take-append-le}
use Rattle.std.proofs.Math.Seq.{take-append-add}
use borrow.Rule.Slice.PartMut.{put_mid, post_of}
use Rattle.std.specs.declared.option.Option.{Option}
use Rattle.std.specs.Io.KnownBytes.{Consumes}
use Rattle.std.proofs.KnownBytes.{Consumes-trans}
use Rattle.input.proofs.read_full.Goals as goal

-- n bytes were read into the part behind the first d of xs
front_grows : (xs ys : List ℕ) (d k n : ℕ) → d ≤ length xs → n ≤ length ys → take (d + n) (put_mid d k xs ys) ≡ take d xs ++ take n ys
front_grows xs ys d k n within few =
    ap (λ m. take (m + n) (put_mid d k xs ys)) (sym (length-take-le d xs within)) ∙ take-append-add (take d xs) (ys ++ post_of d k xs) n
    ∙ ap (λ l. take d xs ++ l) (take-append-le n ys (post_of d k xs) few)

more_read : (a b c : Option (List ℕ)) (xs ys : List ℕ) (d k n : ℕ) → d ≤ length xs → n ≤ length ys → Consumes a b (take d xs) → Consumes b c (take n ys)
    → Consumes a c (take (d + n) (put_mid d k xs ys))
more_read a b c xs ys d k n within few first second =
    subst (Consumes a c) (sym (front_grows xs ys d k n within few)) (Consumes-trans a b c (take d xs) (take n ys) first second)

pub loop-done-preserved : goal.loop-done-preserved
loop-done-preserved g c = record {
  same = search rules;
  within = search rules;
  small = search rules;
  bytes = more_read _ _ _ c.loop-done.buf c.read.new.buf c.loop-done.done _ c.in_ok-n.n c.loop-done.invariant.within c.in_ok-n.ensures.bound.0
      c.loop-done.invariant.bytes c.in_ok-n.ensures.bytes.0;
}
