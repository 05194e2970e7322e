use Rattle.std.proofs.Common.{◌≡◌, length, sym, ◌∙◌, arith, rules}
use Rattle.std.proofs.lemmas.List.{length-take-le}
use Rattle.std.proofs.lemmas.Option.{slice_get_within}
use Rattle.lists.specs.Held.{held}
use Rattle.lists.proofs.Less.{turned, moved_down}
use Rattle.lists.proofs.held.Held.remove.Goals as goal

pub offset_bounds-items-place : goal.offset_bounds-items-place
offset_bounds-items-place g c = let l = slice_get_within (held c.args.self.now) c.args.place _ (sym c.at.ensures ∙ c.in_ok-item.was) in search rules

pub slice_bounds-rotate_left-count : goal.slice_bounds-rotate_left-count
slice_bounds-rotate_left-count g c = let l = slice_get_within (held c.args.self.now) c.args.place _ (sym c.at.ensures ∙ c.in_ok-item.was) in search rules

pub slice_bounds-rotate_left-start : goal.slice_bounds-rotate_left-start
slice_bounds-rotate_left-start g c = let l = slice_get_within (held c.args.self.now) c.args.place _ (sym c.at.ensures ∙ c.in_ok-item.was) in search rules

pub rotate_left-requires : goal.rotate_left-requires
rotate_left-requires g c = let l = slice_get_within (held c.args.self.now) c.args.place _ (sym c.at.ensures ∙ c.in_ok-item.was) in search rules

pub returns : goal.returns
returns g c =
    let h = c.args.self.now in
    let at = sym c.at.ensures ∙ c.in_ok-item.was in
    let l = slice_get_within (held h) c.args.place _ at in
    let k : length (held h) ≡ h.count = length-take-le h.count h.items (omega (arith, h.room, h.few)) in
    let t = turned h.items c.rotate_left.new.self c.args.place h.count (omega arith) (omega (arith, h.room, h.few)) c.rotate_left.ensures.after in
    (sym at, (l, t, rw t (moved_down (held h) c.args.place l)))
