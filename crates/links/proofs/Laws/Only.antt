-- No second answer: two results that meet the promise of a public function are equal.
use Rattle.std.specs.Prelude.{Bool, ◌≡◌}
use Rattle.std.proofs.Common.{sym, ◌∙◌}
use Rattle.links.specs.Fresh.{fresh_links}
use Rattle.links.specs.Linked.{linked}
use Rattle.links.specs.declared.Links.{Links}

pub only-fresh : (a b : Links) → a ≡ fresh_links → b ≡ fresh_links → a ≡ b
only-fresh a b h k = h ∙ sym k

pub only-well-formed : (links : Links) (a b : Bool) → a ≡ linked links → b ≡ linked links → a ≡ b
only-well-formed links a b h k = h ∙ sym k
