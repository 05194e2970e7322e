-- Lists held in place. Assumes nothing.
use Rattle.std.proofs.Common.{◌≡◌, ℕ, ◌<◌, List, [], ◌∷◌, ◌++◌, length, slice_index_or, Some, Ok, Err, Result, refl, subst, arith}
use Rattle.std.specs.List.{slice_get}
use Rattle.std.proofs.lemmas.Option.{slice_get_read}
use Rattle.lists.specs.declared.held.Full.{Full}
use Rattle.lists.specs.declared.held.Held.{Held}
use Rattle.lists.specs.Held.{held, Pushed}

-- the item that was read at a place of all items
pub read : {X : Type 0} (xs items : List X) (x : X) (i : ℕ) → items ≡ xs → i < length items → x ≡ slice_index_or items i x → slice_get xs i ≡ Some x
read xs items x i same l is = subst (λ ys. slice_get ys i ≡ Some x) same (slice_get_read items _ i x refl l is)

-- where there is room, the item is put
pub pushed : {X : Type 0} {n : ℕ} (x : X) (was is : Held X n) (r : Result (Unit {0}) Full) → length (held was) < n → Pushed x was is r → held is ≡ held was ++ x ∷ []
pushed x was is (Ok _) l p = p.1
pushed x was is (Err _) l p = absurd (let z : ⊥ = omega (arith, p.0) in z)
