-- Each way out, from what the called functions ensure.
use mathlib.Core.Bool.{Bool, true, false}
use mathlib.Core.List.{List}
use mathlib.Core.Path.{◌≡◌, ap, ◌∙◌}
use Prim.Native.Nat.{ℕ, ◌^◌, ◌≤◌, ◌<◌}
use native.Mathlib.Omega.{arith}
use borrow.Author.Tests.{eq-eqb, ne_eqb, lt-ltb, le-ltb}
use lib.ListN.{length}
use Rattle.plain.specs.Answer.{refuses, gives, not_as_asked}
use Rattle.plain.specs.Choice.{pick}
use Rattle.numbers.specs.Bytes.{number_at}
use Rattle.numbers.specs.Slices.{read_at, Wrote, write_at}
use Rattle.numbers.specs.Laws.Slices.{read-inside, write-inside}
use Rattle.machine.specs.Lines.{raised}
use Rattle.machine.proofs.Laws.Clash.{never}
use Rattle.state.specs.Layout as layout
use Rattle.requests.specs.Requests.{is_line, raised_by}
use Rattle.lines.specs.Bytes.{Lent, mask_place, waiting_place, untouched, changed, raised_in, masked_in}

-- a number written inside a state
written : (v : ℕ) (state : List ℕ) (place : ℕ) (wrote : Wrote) → place ≤ 3540 → length state ≡ (layout.state).width → wrote ≡ write_at 4 v state place
    → ◌≡◌ {A = Lent} (record { number = 0; state = wrote.bytes }) (changed place v state)
written v state place wrote within long e =
    ap (λ (w : Wrote). record { number = 0; state = w.bytes }) (e ∙ write-inside 4 state place v (omega arith))

module _ (n : ℕ) (state : List ℕ) where
  pub raise-no-state : (length state ≡ (layout.state).width → ⊥) → untouched state ≡ raised_in n state
  unfolding raised_in
  raise-no-state other = rw (ne_eqb (length state) (layout.state).width other)

  module _ (long : length state ≡ (layout.state).width) where
    found : read_at 4 state waiting_place ≡ gives (number_at 4 state waiting_place)
    found = read-inside 4 state waiting_place (omega arith)

    module _ {w : ℕ} (read : gives w ≡ read_at 4 state waiting_place) where
      there : w ≡ number_at 4 state waiting_place
      there = let f = found in cc

      pub raise-no-line : {number : ℕ} → refuses number ≡ raised_by n w → record { number = number; state = state } ≡ raised_in n state
      unfolding raised_by raised_in
      raise-no-line {number} e = rw (eq-eqb (length state) (layout.state).width long) (go (is_line n) e)
        where
          go : (b : Bool) → refuses number ≡ pick b (gives (raised n w)) (refuses not_as_asked)
              → record { number = number; state = state } ≡ pick b (changed waiting_place (raised n (number_at 4 state waiting_place)) state) (untouched state)
          go true e = never (cc)
          go false e = let same : number ≡ not_as_asked = cc in ap (λ (x : ℕ). record { number = x; state = state }) same

      pub line-raised : {v : ℕ} → gives v ≡ raised_by n w → {wrote : Wrote} → wrote ≡ write_at 4 v state waiting_place
          → ◌≡◌ {A = Lent} (record { number = 0; state = wrote.bytes }) (raised_in n state)
      unfolding raised_by raised_in
      line-raised {v} e {wrote} ew = rw (eq-eqb (length state) (layout.state).width long) (go (is_line n) e)
        where
          go : (b : Bool) → gives v ≡ pick b (gives (raised n w)) (refuses not_as_asked)
              → record { number = 0; state = wrote.bytes } ≡ pick b (changed waiting_place (raised n (number_at 4 state waiting_place)) state) (untouched state)
          go true e =
              let is : v ≡ raised n w = cc in
              written v state waiting_place wrote (omega arith) long ew
              ∙ ap (λ (x : ℕ). changed waiting_place x state) is
              ∙ ap (λ (x : ℕ). changed waiting_place (raised n x) state) there
          go false e = never (cc)

module _ (mask : ℕ) (state : List ℕ) where
  pub mask-no-state : (length state ≡ (layout.state).width → ⊥) → untouched state ≡ masked_in mask state
  unfolding masked_in
  mask-no-state other = rw (ne_eqb (length state) (layout.state).width other)

  module _ (long : length state ≡ (layout.state).width) where
    pub mask-too-large : 2 ^ 16 ≤ mask → untouched state ≡ masked_in mask state
    unfolding masked_in
    mask-too-large h = rw (eq-eqb (length state) (layout.state).width long, le-ltb mask (2 ^ 16) h)

    pub mask-set : mask < 2 ^ 16 → (wrote : Wrote) → wrote ≡ write_at 4 mask state mask_place
        → ◌≡◌ {A = Lent} (record { number = 0; state = wrote.bytes }) (masked_in mask state)
    unfolding masked_in
    mask-set h wrote e =
        rw (eq-eqb (length state) (layout.state).width long, lt-ltb mask (2 ^ 16) h) (written mask state mask_place wrote (omega arith) long e)
