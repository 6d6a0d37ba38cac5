-- A line that enters: what it finds, and what it leaves.
use Rattle.std.specs.Prelude.{◌≡◌, refl, Bool, true, false, List, [], ◌∷◌, ℕ, zero, suc, ◌*◌, ◌/◌, ◌%◌, ◌^◌, ◌<◌, ◌≤◌, T, ltb, leb, eqb}
use Rattle.std.proofs.Common.{ap, subst, div-mul-le_self, pow-suc, arith, eq-eqb, eqb-true, ltb-true, lt-ltb, le-leb, ltb→lt, leb→le, eqb→eq}
use Rattle.plain.specs.All.{All}
use Rattle.plain.specs.Choice.{pick, both}
use Rattle.plain.specs.Laws.Choice.{both-parts, both_true}
use Rattle.links.specs.Depths.{returns_depth, subroutines_depth}
use Rattle.machine.specs.Lines.{has_bit, lines_formed, all_lines, is_due, Line, none, line, first_due, lowest_due, has_room, entering, serving, entered_by, after_line, let_in, released}
use Rattle.machine.proofs.Laws.Clash.{never}
use Rattle.machine.specs.declared.Lines.{Lines}
use Rattle.machine.specs.declared.Machine.{Machine}

-- the lines well formed, part by part
pub record LinesFormed (l : Lines) : Type 0 where
  pub mask-within : l.mask < 2 ^ 16
  pub waiting-within : l.waiting < 2 ^ 16
  pub waiting-even : l.waiting % 2 ≡ 0
  pub block_within : l.block ≤ 1

pub lines-formed : (l : Lines) → T (lines_formed l) → LinesFormed l
lines-formed l t =
    let m = both-parts (ltb l.mask (2 ^ 16)) _ t in
    let w = both-parts (both (ltb l.waiting (2 ^ 16)) (eqb (l.waiting % 2) 0)) (leb l.block 1) m.1 in
    let e = both-parts (ltb l.waiting (2 ^ 16)) (eqb (l.waiting % 2) 0) w.0 in
    record {
      mask-within = ltb→lt l.mask (2 ^ 16) m.0;
      waiting-within = ltb→lt l.waiting (2 ^ 16) e.0;
      waiting-even = eqb→eq (l.waiting % 2) 0 e.1;
      block_within = leb→le l.block 1 w.1;
    }

pub lines-formed-true : (l : Lines) → LinesFormed l → lines_formed l ≡ true
lines-formed-true l h =
    rw (
      lt-ltb l.mask (2 ^ 16) h.mask-within,
      lt-ltb l.waiting (2 ^ 16) h.waiting-within,
      eq-eqb (l.waiting % 2) 0 h.waiting-even,
      le-leb l.block 1 h.block_within,
    )

-- what a line that enters finds
pub record Enters (m : Machine) (n : ℕ) : Type 0 where
  pub free : m.lines.block ≡ 0
  pub r-room : m.links.r < returns_depth
  pub s-room : m.links.s < subroutines_depth
  pub lowest : lowest_due m.lines ≡ line n
  pub due : is_due m.lines n ≡ true
  pub within : (1 ≤ n) × (n ≤ 15)

-- some that hold at the first that is due
first_holds : (P : ℕ → Type 0) (l : Lines) (ns : List ℕ) → All P ns → (n : ℕ) → first_due l ns ≡ line n → P n × (is_due l n ≡ true)
first_holds P l [] h n e = never (cc)
first_holds P l (k ∷ ks) h n e = go (is_due l k) refl e (first_holds P l ks h.1 n)
  where
    go : (b : Bool) → is_due l k ≡ b → pick b (line k) (first_due l ks) ≡ line n → (first_due l ks ≡ line n → P n × (is_due l n ≡ true)) →
        P n × (is_due l n ≡ true)
    go true d is later = let same : k ≡ n = cc in (subst P same h.0, subst (λ (i : ℕ). is_due l i ≡ true) same d)
    go false d is later = later is

pub lowest-holds : (l : Lines) (n : ℕ) → lowest_due l ≡ line n → ((1 ≤ n) × (n ≤ 15)) × (is_due l n ≡ true)
unfolding lowest_due
lowest-holds l n e =
    let found = first_holds (λ i. T (both (leb 1 i) (leb i 15))) l all_lines (tt, (tt, (tt, (tt, (tt, (tt, (tt, (tt, (tt, (tt, (tt, (tt, (tt, (tt, (tt, tt))))))))))))))) n e in
    let within = both-parts (leb 1 n) (leb n 15) found.0 in
    ((leb→le 1 n within.0, leb→le n 15 within.1), found.1)

pub enters : (m : Machine) (n : ℕ) → entering m ≡ line n → Enters m n
unfolding entering
enters m n e = go (both (eqb m.lines.block 0) (has_room m.links)) refl e
  where
    go : (b : Bool) → both (eqb m.lines.block 0) (has_room m.links) ≡ b → pick b (lowest_due m.lines) none ≡ line n → Enters m n
    go true may is =
        let parts = both_true (eqb m.lines.block 0) (has_room m.links) may in
        let room = both_true (ltb m.links.r returns_depth) (ltb m.links.s subroutines_depth) parts.1 in
        let found = lowest-holds m.lines n is in
        record {
          free = eqb-true m.lines.block 0 parts.0;
          r-room = ltb-true m.links.r returns_depth room.0;
          s-room = ltb-true m.links.s subroutines_depth room.1;
          lowest = is;
          due = found.1;
          within = found.0;
        }
    go false may is = never (cc)

-- what a machine keeps whatever line enters
pub let-in : (P : Machine → Type 0) (lined : Bool) (m : Machine) → P m → ((n : ℕ) → Enters m n → P (entered_by n m)) → P (let_in lined m)
unfolding let_in
let-in P false m now next = now
let-in P true m now next = go (entering m) refl
  where
    go : (l : Line) → entering m ≡ l → P (after_line l m)
    go none e = now
    go (line n) e = next n (enters m n e)

-- a bit that is set is in the number
pub bit-within : (n x : ℕ) → has_bit n x ≡ true → 2 ^ n ≤ x
bit-within n x e =
    let one : x / 2 ^ n % 2 ≡ 1 = eqb-true (x / 2 ^ n % 2) 1 e in
    go (x / 2 ^ n) (omega arith) (div-mul-le_self x (2 ^ n))
  where
    go : (q : ℕ) → 1 ≤ q → q * 2 ^ n ≤ x → 2 ^ n ≤ x
    go zero some under = elim some [ ]
    go (suc q) some under = omega arith

pub serving-formed : (l : Lines) (n : ℕ) → LinesFormed l → 1 ≤ n → has_bit n l.waiting ≡ true → LinesFormed (serving n l)
serving-formed l zero h some set = elim some [ ]
serving-formed l (suc n) h some set =
    let within = bit-within (suc n) l.waiting set in
    let twice : 2 ^ suc n ≡ 2 ^ n * 2 = pow-suc 2 n in
    record {
      mask-within = h.mask-within;
      waiting-within = omega (arith, h.waiting-within);
      waiting-even = omega (arith, h.waiting-even);
      block_within = omega arith;
    }

pub released-formed : (l : Lines) → LinesFormed l → LinesFormed (released l)
released-formed l h =
    record { mask-within = h.mask-within; waiting-within = h.waiting-within; waiting-even = h.waiting-even; block_within = omega arith }

-- once a routine is in progress none enters
pub blocked-stays : (lined : Bool) (m : Machine) → m.lines.block ≡ 1 → let_in lined m ≡ m
unfolding let_in entering
blocked-stays false m e = refl
blocked-stays true m e = rw (e)

-- so a line that has entered is the only one
pub let-in-twice : (lined : Bool) (m : Machine) → let_in lined (let_in lined m) ≡ let_in lined m
unfolding let_in
let-in-twice false m = refl
let-in-twice true m = go (entering m) refl
  where
    go : (l : Line) → entering m ≡ l → after_line (entering (after_line l m)) (after_line l m) ≡ after_line l m
    go none e = ap (λ (l : Line). after_line l m) e
    go (line n) e = blocked-stays true (entered_by n m) refl
