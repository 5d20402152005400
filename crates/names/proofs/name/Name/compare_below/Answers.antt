use Rattle.std.proofs.Common.{◌≡◌, nat_cmp, refl}
use Rattle.std.specs.Cmp.Lexicographic.{slice_cmp}
use Rattle.std.proofs.lemmas.Iterator.Search.{cmp_from_yields_List}
use Rattle.std.proofs.lemmas.Iterator.Consumers.{YieldsList-from_first}
use Rattle.names.specs.Iterating.{labels_ahead}
use Rattle.names.specs.Order.{order}
use Rattle.names.proofs.name.Name.compare_below.Goals as goal

pub returns : goal.returns
unfolding order
returns c =
    cmp_from_yields_List (λ x y. y ≡ x) _ (slice_cmp nat_cmp) _ c.cmp.ensures.ran
    (YieldsList-from_first (λ l. l.now) labels_ahead _ c.labels_below.ensures)
    (λ it e. YieldsList-from_first (λ l. l.now) labels_ahead _ (cc)) (λ x y. refl)
