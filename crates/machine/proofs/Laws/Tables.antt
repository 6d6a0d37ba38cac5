-- A table's rule, proved at all of its entries by one test that antt computes over the whole table.
use Rattle.std.specs.Prelude.{◌≡◌, refl, Bool, true, false, List, [], ◌∷◌, ℕ, zero, suc, ◌+◌, ◌<◌, T, ltb, length, get_or}
use Rattle.std.proofs.Common.{subst, le_of_suc-le-suc, not-suc-le-zero, arith}
use Rattle.plain.specs.Choice.{pick, both}
use Rattle.plain.specs.Laws.Choice.{both-parts}
use Rattle.machine.specs.Codes.{Entry, unknown, entry_beq, entry_bra, table, entry_at}

-- a test that passes at each entry, whose code it may look at; from a first code on
abbrev pub every_from : ℕ → (ℕ → Entry → Bool) → List Entry → Bool
every_from first f [] = true
every_from first f (x ∷ xs) = both (f first x) (every_from (suc first) f xs)

-- and at the entries that stand for every other code
pub record Everywhere (f : ℕ → Entry → Bool) : Type 0 where
  pub in_table : T (every_from 0 f table)
  pub past : (code : ℕ) → T (f code unknown)
  pub branches : (code : ℕ) → T (f code entry_beq) × T (f code entry_bra)

in_list : (f : ℕ → Entry → Bool) → ((code : ℕ) → T (f code unknown)) → (first : ℕ) (l : List Entry) → T (every_from first f l) → (n : ℕ) →
    T (f (first + n) (get_or l n unknown))
in_list f past first [] t n = past (first + n)
in_list f past first (x ∷ xs) t zero =
    subst (λ (code : ℕ). T (f code x)) (omega arith) (both-parts (f first x) (every_from (suc first) f xs) t).0
in_list f past first (x ∷ xs) t (suc n) =
    subst (λ (code : ℕ). T (f code (get_or xs n unknown))) (omega arith)
    (in_list f past (suc first) xs (both-parts (f first x) (every_from (suc first) f xs) t).1 n)

-- it passes at every code
pub at-code : (f : ℕ → Entry → Bool) → Everywhere f → (code : ℕ) → T (f code (entry_at code))
unfolding entry_at
at-code f h code = go (ltb code 0x80) (ltb code 0xC0)
  where
    go : (a b : Bool) → T (f code (pick a (get_or table code unknown) (pick b entry_beq entry_bra)))
    go true b = subst (λ (n : ℕ). T (f n (get_or table code unknown))) (omega arith) (in_list f h.past 0 table h.in_table code)
    go false true = (h.branches code).0
    go false false = (h.branches code).1

-- within a list, what a read past its end would give does not matter
pub get_or-within {ℓ} : {A : Type ℓ} (l : List A) (n : ℕ) (a b : A) → n < length l → get_or l n a ≡ get_or l n b
get_or-within [] n a b h = absurd (not-suc-le-zero h)
get_or-within (x ∷ xs) zero a b h = refl
get_or-within (x ∷ xs) (suc n) a b h = get_or-within xs n a b (le_of_suc-le-suc h)
