-- The heads of the mill, in quarters of a metre. Assumes nothing.
use Rattle.std.proofs.Common.{◌≡◌, zero, suc, from_bits, refl}
use Rattle.std.specs.Float.{binary32}
use lib.Ieee.{of_bits}
use Rattle.heads.specs.Orders.{zero_head}
use Rattle.mill.specs.Sheets.{InQuarters}

pub none : zero_head.metres ≡ from_bits binary32 0
unfolding of_bits
none = refl

pub in_quarters : InQuarters
unfolding of_bits
in_quarters zero = refl
in_quarters (suc zero) = refl
in_quarters (suc (suc zero)) = refl
in_quarters (suc (suc (suc zero))) = refl
in_quarters (suc (suc (suc (suc zero)))) = refl
in_quarters (suc (suc (suc (suc (suc zero))))) = refl
in_quarters (suc (suc (suc (suc (suc (suc zero)))))) = refl
in_quarters (suc (suc (suc (suc (suc (suc (suc p))))))) = refl
