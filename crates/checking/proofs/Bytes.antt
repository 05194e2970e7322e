-- Bytes written one after another at the front of a buffer. Assumes nothing.
use Rattle.std.proofs.Common.{◌≡◌, ℕ, ◌+◌, ◌*◌, ◌<◌, ◌≤◌, List, [], ◌∷◌, ◌++◌, length, get_or, take, set, refl, append_assoc, arith}
use Rattle.std.proofs.lemmas.Grind.{elements}
use Rattle.std.proofs.lemmas.List.{take_more, drop_more, set_at, length_push, length-take-le}
use Rattle.checking.specs.declared.justification.Entry.{Entry}
use Rattle.checking.specs.Justification.{bytes, fronted}

pub length_bytes : (es : List Entry) → length (bytes es) ≡ 3 * length es
length_bytes [] = refl
length_bytes (e ∷ es) = let h = length_bytes es in omega arith

bytes_append : (es fs : List Entry) → bytes (es ++ fs) ≡ bytes es ++ bytes fs
bytes_append [] fs = refl
bytes_append (e ∷ es) fs = let h = bytes_append es fs in cc

-- one byte more
put_byte : (bs old : List ℕ) (i b : ℕ) → i ≡ length bs → length bs < length old → set (fronted bs old) i b ≡ fronted (bs ++ b ∷ []) old
put_byte bs old i b at l = grind (arith, elements, drop_more old (length bs) 0 l, set_at)

-- one entry more
pub put_entry : (es : List Entry) (i : ℕ) (d : Entry) (old buffer : List ℕ) → i < length es → 3 * length es ≤ length old → buffer ≡ fronted (bytes (take i es)) old
    → set (set (set buffer (3 * i) (get_or es i d).part) (3 * i + 1) (get_or es i d).round) (3 * i + 2) (get_or es i d).rule ≡ fronted (bytes (take (i + 1) es)) old
put_entry es i d old buffer l room was =
    let n = length_bytes (take i es) in
    let m = length-take-le i es (omega arith) in
    grind (arith, put_byte, take_more es i d l, bytes_append, append_assoc, length_push)
