-- The order of heads. Assumes nothing.
use Rattle.std.proofs.Common.{◌≡◌, true, ◌⊎◌, arith}
use Rattle.std.proofs.lemmas.Float.{le_trans}
use Rattle.heads.specs.declared.head.Head.{Head}
use Rattle.heads.specs.Orders.{zero_head, at_most, larger, Order}
use Rattle.heads.proofs.Comparing.{le_joins, le_from_zero}

pub head_transitive : (a b c : Head) → at_most a b ≡ true → at_most b c ≡ true → at_most a c ≡ true
head_transitive a b c h k = grind (arith, le_trans a.metres b.metres c.metres)

pub head_total : (a b : Head) → (at_most a b ≡ true) ⊎ (at_most b a ≡ true)
head_total a b = grind (arith, le_joins a.metres b.metres a.ok b.ok)

pub head_from_zero : (a : Head) → at_most zero_head a ≡ true
head_from_zero a = grind (arith, le_from_zero a.metres a.ok)

pub larger_one_of : (a b : Head) → (larger a b ≡ a) ⊎ (larger a b ≡ b)
larger_one_of a b = grind arith

pub larger_above : (a b : Head) → (at_most a (larger a b) ≡ true) × (at_most b (larger a b) ≡ true)
larger_above a b = grind (arith, head_total a b, head_total a a, head_total b b)

-- taking the larger never makes less
pub head_grows : (a b : Head) → at_most a (larger a b) ≡ true
head_grows a b = (larger_above a b).0

pub head_order : Order
head_order = record { transitive = head_transitive; total = head_total; from_zero = head_from_zero; one_of = larger_one_of; above = larger_above }
