-- The default of each number is zero, and an array's is its element's, as often as it is long.
use Rattle.std.proofs.Common.{◌≡◌, List, ℕ, replicate, sym, ◌∙◌, arith}
use Rattle.std.proofs.lemmas.List.{ext_get_or, length-replicate, get_or-replicate}
use Rattle.std.specs.Array.{AllOfLen}
use Rattle.links.specs.Actions.{no_locals}
use Rattle.links.specs.Depths.{returns_depth, frames_count, levels_count, level_cells}
use Rattle.links.specs.Fresh.{fresh_frame, fresh_level, fresh_links}
use Rattle.links.specs.declared.Frame.{Frame}
use Rattle.links.specs.declared.Level.{Level}
use Rattle.links.proofs.Links.fresh.Goals as goal

repeated : {A : Type 0} (P : A → Type 0) (x : A) (xs : List A) (n : ℕ) → ((y : A) → P y → x ≡ y) → AllOfLen P xs n → replicate n x ≡ xs
repeated P x xs n is h =
    sym
    (ext_get_or x xs (replicate n x) (h.long ∙ sym (length-replicate n x))
    (λ i less. sym (is _ (h.at i x (omega (arith, h.long)))) ∙ sym (get_or-replicate n i x x (omega (arith, h.long)))))

frame-is : (locals : List ℕ) (r address : ℕ) → no_locals ≡ locals → r ≡ 0 → address ≡ 0 → fresh_frame ≡ record { locals = locals; r = r; address = address }
unfolding fresh_frame
frame-is l r a locals is-r address = cc

level-is : (cells : List ℕ) (s p address : ℕ) → replicate level_cells 0 ≡ cells → s ≡ 0 → p ≡ 0 → address ≡ 0 →
    fresh_level ≡ record { cells = cells; s = s; p = p; address = address }
unfolding fresh_level
level-is l s p a cells is-s is-p address = cc

links-are : (returns : List ℕ) (frames : List Frame) (levels : List Level) (r s e : ℕ) → replicate returns_depth 0 ≡ returns → r ≡ 0 →
    replicate frames_count fresh_frame ≡ frames → s ≡ 0 → replicate levels_count fresh_level ≡ levels → e ≡ 0 →
    fresh_links ≡ record { returns = returns; r = r; frames = frames; s = s; levels = levels; e = e }
unfolding fresh_links
links-are returns frames levels r s e is-returns is-r are-frames is-s are-levels is-e = cc

zeros : (xs : List ℕ) (n : ℕ) → AllOfLen (λ (x : ℕ). x ≡ 0) xs n → replicate n 0 ≡ xs
zeros xs n h = repeated (λ (x : ℕ). x ≡ 0) 0 xs n (λ y k. sym k) h

pub returns : goal.returns
unfolding no_locals
returns c =
    let h = c.default.ensures in
    sym
    (links-are _ _ _ _ _ _ (zeros _ _ h.0) h.1.0
    (repeated _ fresh_frame _ _ (λ f k. frame-is _ _ _ (zeros _ _ k.0) k.1.0 k.1.1) h.1.1.0) h.1.1.1.0
    (repeated _ fresh_level _ _ (λ f k. level-is _ _ _ _ (zeros _ _ k.0) k.1.0 k.1.1.0 k.1.1.1) h.1.1.1.1.0) h.1.1.1.1.1)
