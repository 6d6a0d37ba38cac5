-- A code below 80 that is no literal and not JSL is one byte: one test over the table.
use Rattle.std.specs.Prelude.{◌≡◌, refl, Bool, true, false, List, [], ◌∷◌, ℕ, zero, suc, ◌<◌, T, eqb, get_or}
use Rattle.std.proofs.Common.{subst, lt-ltb, ne_eqb}
use Rattle.plain.specs.Choice.{pick, both}
use Rattle.plain.specs.Laws.Choice.{both-parts}
use Rattle.machine.specs.Codes.{Operand, none, number, offset, Entry, unknown, table, entry_at}
use Rattle.run_words.specs.Promises.{OneByte}

-- nothing follows the code
bare : Operand → Bool
bare none = true
bare (number n) = false
bare offset = false

bare-none : (o : Operand) → T (bare o) → o ≡ none
unfolding bare
bare-none none t = refl
bare-none (number n) t = absurd t
bare-none offset t = absurd t

-- the codes that a number follows
followed : ℕ → Bool
followed code =
    pick (eqb code 0x34) true (pick (eqb code 0x35) true (pick (eqb code 0x36) true (pick (eqb code 0x38) true false)))

judged : ℕ → Entry → Bool
judged code e = pick (followed code) true (bare e.operand)

-- a test of each entry with its place
every_at : (ℕ → Entry → Bool) → List Entry → Bool
every_at f [] = true
every_at f (e ∷ es) = both (f 0 e) (every_at (λ n. f (suc n)) es)

at_each : (f : ℕ → Entry → Bool) (es : List Entry) → T (every_at f es) → (other : Entry) → ((n : ℕ) → T (f n other)) → (n : ℕ) →
    T (f n (get_or es n other))
unfolding every_at
at_each f [] t other h n = h n
at_each f (e ∷ es) t other h zero = (both-parts (f 0 e) (every_at (λ n. f (suc n)) es) t).0
at_each f (e ∷ es) t other h (suc n) =
    at_each (λ k. f (suc k)) es (both-parts (f 0 e) (every_at (λ k. f (suc k)) es) t).1 other (λ k. h (suc k)) n

table-judged : T (every_at judged table)
unfolding judged every_at table bare followed
table-judged = tt

past-judged : (code : ℕ) → T (judged code unknown)
unfolding judged bare
past-judged code = go (followed code)
  where
    go : (b : Bool) → T (pick b true true)
    go true = tt
    go false = tt

not-followed : (code : ℕ) → OneByte code → followed code ≡ false
unfolding followed
not-followed code o =
    rw (ne_eqb code 0x34 o.not34, ne_eqb code 0x35 o.not35, ne_eqb code 0x36 o.not36, ne_eqb code 0x38 o.not38)

pub nothing-follows : (code : ℕ) → code < 0x80 → OneByte code → (entry_at code).operand ≡ none
unfolding judged entry_at
nothing-follows code h o =
    rw (lt-ltb code 0x80 h)
    (bare-none (get_or table code unknown).operand
    (subst (λ (b : Bool). T (pick b true (bare (get_or table code unknown).operand))) (not-followed code o)
    (at_each judged table table-judged unknown past-judged code)))
