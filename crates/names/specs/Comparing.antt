-- What the traits of comparison ask of the order of names.
use Rattle.std.specs.Prelude.{◌≡◌, ℕ, nat_eq, List, Some}
use Rattle.std.specs.Cmp.{IsTotalOrder, IsPartialOrder, nat_cmp_total, po}
use Rattle.std.specs.Cmp.Lexicographic.{pointwise, slice_cmp, lists_total, lists_ties, texts_ties}
use Rattle.std.specs.Ordering.{eq_by_cmp, nat_cmp}
use Rattle.names.specs.Order.{order}

pub names_total : IsTotalOrder order
unfolding order
names_total = lists_total (lists_total nat_cmp_total)

-- it tells apart all names that differ
pub names_ties : (a b : List (List ℕ)) → pointwise (pointwise nat_eq) a b ≡ eq_by_cmp order a b
unfolding order
names_ties = lists_ties (slice_cmp nat_cmp) texts_ties

pub names_partial : IsPartialOrder (pointwise (pointwise nat_eq)) (λ a b. Some (order a b))
names_partial = po names_total names_ties
