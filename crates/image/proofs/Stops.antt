-- What the limits of a section leave room for: no product wraps, and the elements of a whole section lie inside the file.
use Rattle.std.proofs.Common.{List, ◌≡◌, sym, ap, ◌∙◌, ℕ, ◌+◌, ◌*◌, ◌^◌, ◌≤◌, ◌<◌, length, arith, Result, Ok}
use native.Mathlib.Nat.{mul-le-mul}
use Rattle.image.specs.Format.{limits}
use Rattle.image.specs.Judging.{span_at}
use Rattle.image.specs.Laws.Met.{says_met}
use Rattle.image.specs.Laws.Section.{whole-at, elements-inside}
use Rattle.image.specs.declared.Section.{Section}
use Rattle.image.specs.declared.Section.TheVariants.{Memory, Cells, Budget}
use Rattle.image.specs.declared.Limits.{Limits}
use Rattle.image.specs.declared.Fault.{Fault}
use Rattle.image.specs.declared.Span.{Span}

-- no section has more bytes than this
most_bytes : (s : Section) → (limits s).width * (limits s).most < 2 ^ 16
most_bytes Memory = omega arith
most_bytes Cells = omega arith
most_bytes Budget = omega arith

-- so that no product wraps
pub small_product : (s : Section) (l : Limits) (n : ℕ) → l ≡ limits s → n ≤ l.most → l.width * n < 2 ^ 16
small_product s l n e h =
    let w : l.width ≡ (limits s).width = ap (λ (x : Limits). x.width) e in
    let m : l.most ≡ (limits s).most = ap (λ (x : Limits). x.most) e in
    let most : (limits s).width * (limits s).most < 2 ^ 16 = most_bytes s in
    let low : l.width ≤ (limits s).width = omega arith in
    let few : n ≤ (limits s).most = omega arith in
    let product : l.width * n ≤ (limits s).width * (limits s).most = mul-le-mul low few in
    omega arith

-- where the elements of a whole section lie
pub span_inside : (file : List ℕ) (s : Section) (at : ℕ) (m : Result Span Fault) (span : Span) → says_met m ≡ span_at file s at → m ≡ Ok span
    → span.from + (limits s).width * span.count ≤ length file
span_inside file s at m span is whole-m = elements-inside file s at span (whole-at file s at span (sym is ∙ ap says_met whole-m))
