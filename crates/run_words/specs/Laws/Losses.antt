-- What the memory loses by stores, and what is then handed back for its sum.
use Rattle.std.specs.Prelude.{◌≡◌, refl, ℕ, zero, suc, ◌+◌, ◌-◌, ◌*◌, ◌%◌, ◌/◌, ◌^◌, ◌≤◌, ◌<◌, set, length, take, drop}
use Rattle.std.proofs.Math.Path.{ap}
use Rattle.std.proofs.Common.{sym, ◌∙◌, get_or-set_other, get_or-take, get_or-drop}
use mathlib.Core.List.{List, []}
use native.Mathlib.Omega.{arith}
use Rattle.std.proofs.Math.ListN.{get_or}
use Rattle.std.proofs.lemmas.List.Edits.{sets}
use Rattle.numbers.specs.Bytes.{bytes_of}
use Rattle.numbers.specs.Laws.Bytes.{length-bytes}
use Rattle.machine.specs.Limits.{tasks_count}
use Rattle.machine.specs.Memory.{size}
use Rattle.machine.specs.Sum.{sum_of, sum_after}
use Rattle.machine.proofs.Laws.Sum.{standing, sum-set, sum-sets}
use Rattle.machine.specs.declared.Width.{Width}
use Rattle.machine.specs.declared.Width.TheVariants.{Byte, Word, Long}
use Rattle.run_words.specs.Levels.{tabulated, note_in, losses_in}
use Rattle.run_words.specs.Losses.{loss_of, Puts}
use Rattle.run_words.specs.Laws.Tabled.{length-tabulated, tabulated-at, tabulated-set}

-- sums modulo 2^32: a remainder may stand for its number; what is added and taken off again, and what stands on both sides, falls away
onward : (x c : ℕ) → (x % 2 ^ 32 + c) % 2 ^ 32 ≡ (x + c) % 2 ^ 32
onward x c = omega arith

added : (a b x y : ℕ) → a % 2 ^ 32 ≡ x % 2 ^ 32 → b % 2 ^ 32 ≡ y % 2 ^ 32 → (a + b) % 2 ^ 32 ≡ (x + y) % 2 ^ 32
added a b x y ea eb = omega (arith, ea, eb)

cancelled : (x y z : ℕ) → (x + (2 ^ 32 - y % 2 ^ 32) + (y + z)) % 2 ^ 32 ≡ (x + z) % 2 ^ 32
cancelled x y z = omega arith

pub twice : (n : ℕ) → n % 2 ^ 32 % 2 ^ 32 ≡ n % 2 ^ 32
twice n = omega arith

less-same : (a b c : ℕ) → (a + c) % 2 ^ 32 ≡ (b + c) % 2 ^ 32 → a % 2 ^ 32 ≡ b % 2 ^ 32
less-same a b c e = omega (arith, e)

-- two and two bytes, then both halves
pub halves-added : (v low high : ℕ) → v < 2 ^ 32 → low ≡ v % 2 ^ 8 + v / 2 ^ 16 % 2 ^ 8 * 2 ^ 16 → high ≡ v / 2 ^ 8 % 2 ^ 8 + v / 2 ^ 8 / 2 ^ 16 % 2 ^ 8 * 2 ^ 16 →
    (low + high) % 2 ^ 16 + (low + high) / 2 ^ 16 ≡ sum_of (bytes_of 4 v)
unfolding sum_of
halves-added v low high h el eh =
    let top : v / 2 ^ 8 / 2 ^ 16 % 2 ^ 8 ≡ v / 2 ^ 24 % 2 ^ 8 = ap (λ (x : ℕ). x % 2 ^ 8) quotients in
    by_bytes (v % 2 ^ 8) (v / 2 ^ 8 % 2 ^ 8) (v / 2 ^ 16 % 2 ^ 8) (v / 2 ^ 24 % 2 ^ 8) low high (omega arith) (omega arith) (omega arith) (omega arith) el (eh ∙ ap (λ (x : ℕ). v / 2 ^ 8 % 2 ^ 8 + x * 2 ^ 16) top)
  where
    quotients : v / 2 ^ 8 / 2 ^ 16 ≡ v / 2 ^ 24
    quotients = omega arith

    by_bytes : (a b c d low high : ℕ) → a < 2 ^ 8 → b < 2 ^ 8 → c < 2 ^ 8 → d < 2 ^ 8 → low ≡ a + c * 2 ^ 16 → high ≡ b + d * 2 ^ 16 →
        (low + high) % 2 ^ 16 + (low + high) / 2 ^ 16 ≡ d + (c + (b + (a + 0)))
    by_bytes a b c d low high ha hb hc hd el eh = omega arith

-- the bytes of a number add up to little
bytes_low : (n value : ℕ) → sum_of (bytes_of n value) ≤ 255 * n
unfolding sum_of
bytes_low zero value = omega arith
bytes_low (suc zero) value = omega arith
bytes_low (suc (suc n)) value = let rest = bytes_low (suc n) value in omega (arith, rest)

-- what stores of one, two and four bytes tell: the new bytes are taken off first, then the old ones are added, each wrapping
module _ (mem : List ℕ) (at value less new : ℕ) (taken : (less + new) % 2 ^ 32 ≡ 0) where
  -- after the first byte, and after one more
  first-added : (n b : ℕ) → n ≤ 4 → new ≡ sum_of (bytes_of n value) → {lost : ℕ} → lost ≡ (less + b) % 2 ^ 32 → lost ≡ (b + (2 ^ 32 - sum_of (bytes_of n value))) % 2 ^ 32
  first-added n b few is e =
      let low = bytes_low n value in
      omega (arith, taken, is, e, low, few)

  one_more : (x c b : ℕ) {lost lost' : ℕ} → lost ≡ (x + c) % 2 ^ 32 → lost' ≡ (lost + b) % 2 ^ 32 → lost' ≡ (x + b + c) % 2 ^ 32
  one_more x c b e e' =
      let order : x + c + b ≡ x + b + c = omega arith in
      e' ∙ (ap (λ (l : ℕ). (l + b) % 2 ^ 32) e ∙ (onward (x + c) b ∙ ap (λ (n : ℕ). n % 2 ^ 32) order))

  abbrev byte : ℕ → ℕ
  byte k = get_or mem (at + k) 0

  place : (k j : ℕ) → at + k ≡ j → byte k ≡ get_or mem j 0
  place k j e = ap (λ (i : ℕ). get_or mem i 0) e

  pub one-lost : new ≡ sum_of (bytes_of 1 value) → {lost : ℕ} → lost ≡ (less + get_or mem at 0) % 2 ^ 32 → lost ≡ loss_of 1 mem at value
  unfolding loss_of
  one-lost is e =
      let order : get_or mem at 0 ≡ get_or mem at 0 + 0 = omega arith in
      first-added 1 (get_or mem at 0) (omega arith) is e ∙ ap (λ (n : ℕ). (n + (2 ^ 32 - sum_of (bytes_of 1 value))) % 2 ^ 32) order

  pub two-lost : new ≡ sum_of (bytes_of 2 value) → {first lost : ℕ} → first ≡ (less + get_or mem at 0) % 2 ^ 32 →
      lost ≡ (first + get_or mem (at + 1) 0) % 2 ^ 32 → lost ≡ loss_of 2 mem at value
  unfolding loss_of
  two-lost is e₁ e₂ =
      let b = place 1 (suc at) (omega arith) in
      let order : get_or mem at 0 + byte 1 ≡ standing 2 mem at = omega (arith, b) in
      one_more (get_or mem at 0) (2 ^ 32 - sum_of (bytes_of 2 value)) (byte 1) (first-added 2 (get_or mem at 0) (omega arith) is e₁) e₂ ∙
      ap (λ (n : ℕ). (n + (2 ^ 32 - sum_of (bytes_of 2 value))) % 2 ^ 32) order

  pub four-lost : new ≡ sum_of (bytes_of 4 value) → {first second third lost : ℕ} → first ≡ (less + get_or mem at 0) % 2 ^ 32 →
      second ≡ (first + get_or mem (at + 1) 0) % 2 ^ 32 → third ≡ (second + get_or mem (at + 2) 0) % 2 ^ 32 → lost ≡ (third + get_or mem (at + 3) 0) % 2 ^ 32 →
      lost ≡ loss_of 4 mem at value
  unfolding loss_of
  four-lost is e₁ e₂ e₃ e₄ =
      let rest = 2 ^ 32 - sum_of (bytes_of 4 value) in
      let a = get_or mem at 0 in
      let b = place 1 (suc at) (omega arith) in
      let c = place 2 (suc (suc at)) (omega arith) in
      let d = place 3 (suc (suc (suc at))) (omega arith) in
      let order : a + byte 1 + byte 2 + byte 3 ≡ standing 4 mem at = omega (arith, b, c, d) in
      one_more (a + byte 1 + byte 2) rest (byte 3) (one_more (a + byte 1) rest (byte 2) (one_more a rest (byte 1) (first-added 4 a (omega arith) is e₁) e₂) e₃) e₄ ∙
      ap (λ (n : ℕ). (n + rest) % 2 ^ 32) order

-- a store loses the memory what it says
store-loses : (n value : ℕ) (mem mem' : List ℕ) (at : ℕ) → n ≤ 4 → at + n ≤ length mem → mem' ≡ sets mem at (bytes_of n value) →
    loss_of n mem at value ≡ sum_after 0 mem' mem
unfolding loss_of sum_after
store-loses n value mem mem' at few inside e =
    let long : length (bytes_of n value) ≡ n = length-bytes n value in
    let moved : sum_of (sets mem at (bytes_of n value)) + standing n mem at ≡ sum_of mem + sum_of (bytes_of n value) =
    ap (λ (k : ℕ). sum_of (sets mem at (bytes_of n value)) + standing k mem at) (sym long) ∙ sum-sets (bytes_of n value) mem at (omega (arith, long, inside)) in
    let after : sum_of mem' ≡ sum_of (sets mem at (bytes_of n value)) = ap sum_of e in
    let low = bytes_low n value in
    omega (arith, moved, after, low, few)

pub size_few : (w : Width) → size w ≤ 4
size_few Byte = omega arith
size_few Word = omega arith
size_few Long = omega arith

-- nothing is lost before the first store
pub nothing-lost : (lost : ℕ) (mem : List ℕ) → lost % 2 ^ 32 ≡ sum_after lost mem mem
unfolding sum_after
nothing-lost lost mem = omega arith

sum_below : (sum : ℕ) (a b : List ℕ) → sum_after sum a b % 2 ^ 32 ≡ sum_after sum a b
unfolding sum_after
sum_below sum a b = twice (sum + sum_of b + (2 ^ 32 - sum_of a % 2 ^ 32))

-- what was lost before grows by what is lost now
loses-on : (lost₀ lost more : ℕ) (mem₀ mem mem' : List ℕ) → lost % 2 ^ 32 ≡ sum_after lost₀ mem mem₀ → more % 2 ^ 32 ≡ sum_after 0 mem' mem →
    (lost + more) % 2 ^ 32 ≡ sum_after lost₀ mem' mem₀
unfolding sum_after
loses-on lost₀ lost more mem₀ mem mem' el em =
    let none : 0 + sum_of mem + (2 ^ 32 - sum_of mem' % 2 ^ 32) ≡ sum_of mem + (2 ^ 32 - sum_of mem' % 2 ^ 32) = omega arith in
    added lost more (lost₀ + sum_of mem₀ + (2 ^ 32 - sum_of mem % 2 ^ 32)) (sum_of mem + (2 ^ 32 - sum_of mem' % 2 ^ 32)) el (em ∙ ap (λ (n : ℕ). n % 2 ^ 32) none) ∙
    cancelled (lost₀ + sum_of mem₀) (sum_of mem) (2 ^ 32 - sum_of mem' % 2 ^ 32)

-- by a store
pub stored-loses : (n value lost₀ : ℕ) (mem₀ mem mem' : List ℕ) (at lost more : ℕ) → n ≤ 4 → at + n ≤ length mem → Puts n mem at value mem' more →
    lost % 2 ^ 32 ≡ sum_after lost₀ mem mem₀ → {lost' : ℕ} → lost' ≡ (lost + more) % 2 ^ 32 → lost' % 2 ^ 32 ≡ sum_after lost₀ mem' mem₀
stored-loses n value lost₀ mem₀ mem mem' at lost more few inside puts before e =
    let now : more ≡ sum_after 0 mem' mem = puts.lost-is ∙ store-loses n value mem mem' at few inside puts.written in
    ap (λ (l : ℕ). l % 2 ^ 32) e ∙ (twice (lost + more) ∙ loses-on lost₀ lost more mem₀ mem mem' before (ap (λ (l : ℕ). l % 2 ^ 32) now ∙ sum_below 0 mem' mem))

-- what is lost is taken off the sum
-- what was lost by two stretches, one after the other
reduced : (x y z : ℕ) → (x % 2 ^ 32 + y + z) % 2 ^ 32 ≡ (x + y + z) % 2 ^ 32
reduced x y z = omega arith

there_and_back : (x a b c : ℕ) → ((x + a + (2 ^ 32 - b % 2 ^ 32)) % 2 ^ 32 + b + (2 ^ 32 - c % 2 ^ 32)) % 2 ^ 32 ≡ (x + a + (2 ^ 32 - c % 2 ^ 32)) % 2 ^ 32
there_and_back x a b c = omega arith

pub lost-later : (lost₀ a b : ℕ) (mem₀ mem mem' : List ℕ) → a % 2 ^ 32 ≡ sum_after lost₀ mem mem₀ → b % 2 ^ 32 ≡ sum_after a mem' mem → b % 2 ^ 32 ≡ sum_after lost₀ mem' mem₀
unfolding sum_after
lost-later lost₀ a b mem₀ mem mem' first second =
    second ∙
    (sym (reduced a (sum_of mem) (2 ^ 32 - sum_of mem' % 2 ^ 32)) ∙
    (ap (λ (x : ℕ). (x + sum_of mem + (2 ^ 32 - sum_of mem' % 2 ^ 32)) % 2 ^ 32) first ∙ there_and_back lost₀ (sum_of mem₀) (sum_of mem) (sum_of mem')))

pub sum_less : (sum lost : ℕ) (mem mem' : List ℕ) → lost % 2 ^ 32 ≡ sum_after 0 mem' mem →
    (sum + (2 ^ 32 - lost % 2 ^ 32)) % 2 ^ 32 ≡ sum_after sum mem mem'
unfolding sum_after
sum_less sum lost mem mem' e = omega (arith, e)

-- a part that is lent on has the bytes of the whole
standing-in-part : (n : ℕ) (whole : List ℕ) (start size i : ℕ) → i + n ≤ size → standing n (take size (drop start whole)) i ≡ standing n whole (start + i)
standing-in-part zero whole start size i h = refl
standing-in-part (suc n) whole start size i h =
    let here : get_or (take size (drop start whole)) i 0 ≡ get_or whole (start + i) 0 = get_or-take size (drop start whole) i 0 (omega arith) ∙ get_or-drop start whole i 0 in
    let rest = standing-in-part n whole start size (suc i) (omega arith) in
    let place : start + suc i ≡ suc (start + i) = omega arith in
    let same : standing n whole (start + suc i) ≡ standing n whole (suc (start + i)) = ap (λ (k : ℕ). standing n whole k) place in
    omega (arith, here, rest, same)

pub loss-in-part : (n value : ℕ) (whole : List ℕ) (start end at : ℕ) → start ≤ at → at + n ≤ end →
    loss_of n (take (end - start) (drop start whole)) (at - start) value ≡ loss_of n whole at value
unfolding loss_of
loss-in-part n value whole start end at low high =
    let place : start + (at - start) ≡ at = omega arith in
    let same : standing n (take (end - start) (drop start whole)) (at - start) ≡ standing n whole at =
    standing-in-part n whole start (end - start) (at - start) (omega arith) ∙ ap (λ (k : ℕ). standing n whole k) place in
    ap (λ (x : ℕ). (x + (2 ^ 32 - sum_of (bytes_of n value))) % 2 ^ 32) same

-- four machines have lost what each of them has
pub all-lost : (rows : List (List (List ℕ))) (a b c d : ℕ) → a ≡ (note_in (get_or rows 0 [])).lost → b ≡ (note_in (get_or rows 1 [])).lost → c ≡ (note_in (get_or rows 2 [])).lost →
    d ≡ (note_in (get_or rows 3 [])).lost → {two three four : ℕ} → two ≡ (a + b) % 2 ^ 32 → three ≡ (two + c) % 2 ^ 32 → four ≡ (three + d) % 2 ^ 32 →
    four ≡ sum_of (losses_in rows) % 2 ^ 32
unfolding losses_in tabulated sum_of
all-lost rows a b c d ea eb ec ed e₂ e₃ e₄ =
    let order : a + b + c + d ≡ (note_in (get_or rows 0 [])).lost + ((note_in (get_or rows 1 [])).lost + ((note_in (get_or rows 2 [])).lost + ((note_in (get_or rows 3 [])).lost + 0))) = omega (arith, ea, eb, ec, ed) in
    e₄ ∙ (ap (λ (x : ℕ). (x + d) % 2 ^ 32) (e₃ ∙ (ap (λ (x : ℕ). (x + c) % 2 ^ 32) e₂ ∙ onward (a + b) c)) ∙ (onward (a + b + c) d ∙ ap (λ (x : ℕ). x % 2 ^ 32) order))

-- the losses of four: one of them anew
module _ (rows : List (List (List ℕ))) (t : ℕ) (row : List (List ℕ)) (h : t < tasks_count) (there : get_or (set rows t row) t [] ≡ row) where
  losses-set : losses_in (set rows t row) ≡ set (losses_in rows) t (note_in row).lost
  unfolding losses_in
  losses-set =
      tabulated-set tasks_count (λ i. (note_in (get_or rows i [])).lost) (λ i. (note_in (get_or (set rows t row) i [])).lost) t (note_in row).lost h
      (ap (λ (r : List (List ℕ)). (note_in r).lost) there)
      (λ i less ne. ap (λ (r : List (List ℕ)). (note_in r).lost) (get_or-set_other rows t i row [] ne))

  loss-there : get_or (losses_in rows) t 0 ≡ (note_in (get_or rows t [])).lost
  unfolding losses_in
  loss-there = tabulated-at tasks_count (λ i. (note_in (get_or rows i [])).lost) t 0 h

  losses-long : length (losses_in rows) ≡ tasks_count
  unfolding losses_in
  losses-long = length-tabulated tasks_count (λ i. (note_in (get_or rows i [])).lost)

  losses-moved : sum_of (losses_in (set rows t row)) + (note_in (get_or rows t [])).lost ≡ sum_of (losses_in rows) + (note_in row).lost
  losses-moved =
      let moved = sum-set (losses_in rows) t (note_in row).lost (omega (arith, losses-long)) in
      ap (λ (l : List ℕ). sum_of l + (note_in (get_or rows t [])).lost) losses-set ∙ (ap (λ (x : ℕ). sum_of (set (losses_in rows) t (note_in row).lost) + x) (sym loss-there) ∙ moved)

  -- a row that keeps what was lost
  pub losses-kept : (note_in row).lost ≡ (note_in (get_or rows t [])).lost → sum_of (losses_in (set rows t row)) ≡ sum_of (losses_in rows)
  losses-kept same = let moved = losses-moved in omega (arith, moved, same)

  -- after a turn
  pub losses-more : (mem₀ mem mem' : List ℕ) → sum_of (losses_in rows) % 2 ^ 32 ≡ sum_after 0 mem mem₀ → (note_in row).lost % 2 ^ 32 ≡ sum_after (note_in (get_or rows t [])).lost mem' mem →
      sum_of (losses_in (set rows t row)) % 2 ^ 32 ≡ sum_after 0 mem' mem₀
  unfolding sum_after
  losses-more mem₀ mem mem' now more =
      let all = sum_of (losses_in rows) in
      let was = (note_in (get_or rows t [])).lost in
      let order : was + sum_of mem + (2 ^ 32 - sum_of mem' % 2 ^ 32) ≡ sum_of mem + (was + (2 ^ 32 - sum_of mem' % 2 ^ 32)) = omega arith in
      let back : 0 + sum_of mem₀ + (was + (2 ^ 32 - sum_of mem' % 2 ^ 32)) ≡ 0 + sum_of mem₀ + (2 ^ 32 - sum_of mem' % 2 ^ 32) + was = omega arith in
      less-same (sum_of (losses_in (set rows t row))) (0 + sum_of mem₀ + (2 ^ 32 - sum_of mem' % 2 ^ 32)) was
      (ap (λ (x : ℕ). x % 2 ^ 32) losses-moved ∙
      (added all (note_in row).lost (0 + sum_of mem₀ + (2 ^ 32 - sum_of mem % 2 ^ 32)) (sum_of mem + (was + (2 ^ 32 - sum_of mem' % 2 ^ 32))) now (more ∙ ap (λ (x : ℕ). x % 2 ^ 32) order) ∙
      (cancelled (0 + sum_of mem₀) (sum_of mem) (was + (2 ^ 32 - sum_of mem' % 2 ^ 32)) ∙ ap (λ (x : ℕ). x % 2 ^ 32) back)))
