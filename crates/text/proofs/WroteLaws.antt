-- Texts written one after another.
use Rattle.std.proofs.Common.{◌≡◌, ℕ, zero, suc, ◌+◌, ◌-◌, ◌/◌, ◌%◌, ◌<◌, ◌≤◌, Bool, true, false, cond, List, [], ◌∷◌, ◌++◌, length, take, length-append, append_assoc, refl, sym, ap, subst, ◌∙◌, arith, add-zero}
use Rattle.std.proofs.lemmas.List.{append-nil}
use Rattle.std.proofs.Math.Dec.{ltb}
use Rattle.std.proofs.lemmas.Bool.{lt-ltb, le-ltb}
use Rattle.meaning.specs.ReadOut.{decimal_in}
use Rattle.text.specs.declared.Writer.{Writer}
use Rattle.text.specs.Wrote.{Wrote, HasRoom, Adds}

-- nothing
pub wrote_none : (b : List ℕ) (at : ℕ) → Wrote b at [] b at
wrote_none b at = record { same = refl; end = sym (add-zero at); front = sym (append-nil (take at b)) }

pub adds_none : (w : Writer) → Adds w [] w
adds_none w = record { wrote = wrote_none w.out.now w.at; lent = refl }

-- one text, then another
pub wrote_then : {b m a x y : List ℕ} {at k r : ℕ} → Wrote b at x m k → Wrote m k y a r → Wrote b at (x ++ y) a r
wrote_then {b} {m} {a} {x} {y} {at} {k} {r} g h =
    let n = length-append x y in
    let e = g.end in
    let f = h.end in
    record { same = h.same ∙ g.same; end = omega arith; front = h.front ∙ ap (λ z. z ++ y) g.front ∙ append_assoc (take at b) x y }

pub adds_then : {w v u : Writer} {x y : List ℕ} → Adds w x v → Adds v y u → Adds w (x ++ y) u
adds_then g h = record { wrote = wrote_then g.wrote h.wrote; lent = h.lent ∙ g.lent }

-- the digits before the last
pub front_digits : ℕ → ℕ → List ℕ
front_digits d n = cond (ltb n 10) [] (decimal_in (d - 1) (n / 10))

pub digits_none : (n : ℕ) → decimal_in 0 n ≡ []
unfolding decimal_in
digits_none n = refl

pub no_digit : (w : Writer) (n d : ℕ) → d ≡ 0 → Adds w (decimal_in d n) w
no_digit w n d e = rw (e, digits_none n) (adds_none w)

-- a number has no more digits than there is room for
pub digits_length : (d n : ℕ) → length (decimal_in d n) ≤ d
unfolding decimal_in
digits_length zero n = omega arith
digits_length (suc d) n = go (ltb n 10) (digits_length d (n / 10))
  where
    go : (b : Bool) → length (decimal_in d (n / 10)) ≤ d → length (cond b [] (decimal_in d (n / 10)) ++ ((48 + n % 10) ∷ [])) ≤ suc d
    go true h = omega arith
    go false h = let a = length-append (decimal_in d (n / 10)) ((48 + n % 10) ∷ []) in omega arith

module _ {w v : Writer} (d n : ℕ) where
  pub no_front : n < 10 → v ≡ w → Adds w (front_digits d n) v
  unfolding front_digits
  no_front h e = rw (lt-ltb n 10 h, e) (adds_none w)

  pub some_front : 10 ≤ n → Adds w (decimal_in (d - 1) (n / 10)) v → Adds w (front_digits d n) v
  unfolding front_digits
  some_front h g = rw (le-ltb n 10 h) g

  module _ (some : 1 ≤ d) (front : Adds w (front_digits d n) v) where
    -- room is left for the last digit
    pub digit_fits : HasRoom w d → HasRoom v 1
    unfolding front_digits
    digit_fits h = let f = front.wrote.same in let e = front.wrote.end in go (ltb n 10) e
      where
        go : (b : Bool) → v.at ≡ w.at + length (cond b [] (decimal_in (d - 1) (n / 10))) → HasRoom v 1
        go true e = let f = front.wrote.same in omega arith
        go false e = let f = front.wrote.same in let l = digits_length (d - 1) (n / 10) in omega arith

    -- the last digit, and with it the number
    pub last_digit : {u : Writer} → Adds v ((48 + n % 10) ∷ []) u → Adds w (decimal_in d n) u
    unfolding front_digits decimal_in
    last_digit {u} g = let e : d ≡ suc (d - 1) = omega arith in subst (λ k. Adds w (decimal_in k n) u) (sym e) (adds_then front g)
