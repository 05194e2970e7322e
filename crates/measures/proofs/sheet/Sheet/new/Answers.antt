use Rattle.std.proofs.Common.{Some, replicate, sym, refl, ap}
use Rattle.std.proofs.lemmas.List.{get_or-replicate}
use Rattle.std.proofs.lemmas.Option.{slice_get_read}
use Rattle.sets.specs.Width.{how_many}
use Rattle.measures.proofs.sheet.Sheet.new.Goals as goal

pub returns : goal.returns
returns g c p l =
    let zero = c.zero.result in
    let there = slice_get_read (replicate how_many zero) how_many p zero refl l (sym (get_or-replicate how_many p zero zero l)) in
    rw there (ap Some c.zero.ensures)
