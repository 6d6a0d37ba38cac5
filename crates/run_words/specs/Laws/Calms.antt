-- Where none can enter, the machine stays as it is.
use Rattle.std.specs.Prelude.{◌≡◌, refl, Bool, true, false, ℕ, ◌≤◌, T, ltb, eqb}
use Rattle.std.proofs.Common.{ap, sym, ◌∙◌, subst, inl, inr, arith, ne_eqb, eqb-true, le-ltb, ltb-false}
use Rattle.std.proofs.lemmas.Bool.{eqb-false}
use Rattle.plain.specs.Choice.{pick, both}
use Rattle.links.specs.Depths.{returns_depth, subroutines_depth}
use Rattle.machine.specs.Lines.{Line, none, lowest_due, entering, let_in, after_line}
use Rattle.machine.proofs.Laws.Entered.{none-while-quiet}
use Rattle.machine.specs.declared.Lines.{Lines}
use Rattle.machine.specs.declared.Machine.{Machine}
use Rattle.requests.specs.Requests.{entering_with}
use Rattle.run_words.specs.Calm.{Quiet, Calm, quiet, blocked, no-return-room, no-frame-room, held_in}

-- nobody's line enters
nobody : (m : Machine) → Calm true m.lines m.links.r m.links.s → entering m ≡ none
unfolding entering
nobody m (quiet (inl off)) = absurd (subst T off tt)
nobody m (quiet (inr e)) = none-while-quiet m e
nobody m (blocked h) = rw (ne_eqb m.lines.block 0 h)
nobody m (no-return-room h) = rw (le-ltb m.links.r returns_depth h) (neither (eqb m.lines.block 0))
  where
    neither : (a : Bool) → pick (both a false) (lowest_due m.lines) none ≡ none
    neither true = refl
    neither false = refl
nobody m (no-frame-room h) = rw (le-ltb m.links.s subroutines_depth h) (neither (eqb m.lines.block 0) (ltb m.links.r returns_depth))
  where
    neither : (a b : Bool) → pick (both a (both b false)) (lowest_due m.lines) none ≡ none
    neither true true = refl
    neither true false = refl
    neither false b = refl

pub calm-stays : (lined : Bool) (m : Machine) → Calm lined m.lines m.links.r m.links.s → let_in lined m ≡ m
unfolding let_in
calm-stays false m c = refl
calm-stays true m c = ap (λ (l : Line). after_line l m) (nobody m c)

-- more on the stacks makes no room
pub calm-rises : {lined : Bool} {l : Lines} {r s r' s' : ℕ} → Calm lined l r s → r ≤ r' → s ≤ s' → Calm lined l r' s'
calm-rises (quiet h) more deeper = quiet h
calm-rises (blocked h) more deeper = blocked h
calm-rises (no-return-room h) more deeper = no-return-room (omega arith)
calm-rises (no-frame-room h) more deeper = no-frame-room (omega arith)

-- where no line might enter, whatever the room
pub unheld-calm : {lined lines : Bool} {heeds : ℕ} {l : Lines} {r s : ℕ} → (heeds ≡ 0 → Quiet lined l) → (lines ≡ false → heeds ≡ 0) → held_in lines heeds l ≡ false →
    Calm lined l r s
unheld-calm {lined} {lines} {heeds} {l} {r} {s} unheeded unasked e = go lines refl (eqb heeds 0) refl e
  where
    go : (a : Bool) → lines ≡ a → (b : Bool) → eqb heeds 0 ≡ b → pick a (pick b false (eqb l.block 0)) false ≡ false → Calm lined l r s
    go false h b k e = quiet (unheeded (unasked h))
    go true h true k e = quiet (unheeded (eqb-true heeds 0 k))
    go true h false k e = blocked (eqb-false l.block 0 e)

-- and none is held where none might
pub unheld-none : (lines : Bool) {heeds : ℕ} (l : Lines) → heeds ≡ 0 → held_in lines heeds l ≡ false
unheld-none true l h = ap (λ (n : ℕ). held_in true n l) h
unheld-none false l h = refl

-- a mark that cannot be set is not
pub unmarked-then : (b : Bool) → (b ≡ true → ⊥) → b ≡ false
unmarked-then true h = absurd (h refl)
unmarked-then false h = refl

-- what was said of the lines at first still holds
pub unheeded-now : {lined : Bool} {heeds heeds₀ : ℕ} (l l₀ : Lines) → (heeds₀ ≡ 0 → Quiet lined l₀) → heeds ≡ heeds₀ → lowest_due l ≡ lowest_due l₀ →
    heeds ≡ 0 → Quiet lined l
unheeded-now {lined} {heeds} {heeds₀} l l₀ unheeded same due h = go (unheeded (sym same ∙ h))
  where
    go : Quiet lined l₀ → Quiet lined l
    go (inl off) = inl off
    go (inr e) = inr (due ∙ e)

-- where nobody enters, none can
pub none-calm : {l : Lines} {r s : ℕ} → entering_with l r s ≡ none → Calm true l r s
unfolding entering_with
none-calm {l} {r} {s} e = go (eqb l.block 0) (ltb r returns_depth) (ltb s subroutines_depth) refl refl refl e
  where
    go : (a b c : Bool) → eqb l.block 0 ≡ a → ltb r returns_depth ≡ b → ltb s subroutines_depth ≡ c → pick (both a (both b c)) (lowest_due l) none ≡ none → Calm true l r s
    go false b c ea eb ec e = blocked (eqb-false l.block 0 ea)
    go true false c ea eb ec e = no-return-room (ltb-false r returns_depth eb)
    go true true false ea eb ec e = no-frame-room (ltb-false s subroutines_depth ec)
    go true true true ea eb ec e = quiet (inr e)
