-- How many words a real number has at most, and how many bytes of a line they take. Assumes nothing.
use mathlib.Core.Path.{◌≡◌}
use mathlib.Core.Bool.{true}
use mathlib.Core.List.{List, [], ◌∷◌}
use Prim.Native.Nat.{ℕ, ◌+◌, ◌<◌}
use Prim.Native.Char.{code}
use native.Mathlib.Omega.{arith}
use lib.Dec.{ltb}
use lib.ListN.{length, take, drop, length-take, length-drop}
use borrow.Author.Tests.{ltb-true}
use Rattle.lists.specs.Bytes.{bytes, span, starts_with}
use Rattle.lists.proofs.Recursion.{recur_induct, cond_elim}
use Rattle.numerals.specs.Words.{Word, other, spell}
use Rattle.numerals.specs.Cardinal.{cardinal, digits}
use Rattle.numerals.proofs.Room.{RoomFor, together, cardinal_room, digits_room}
use Rattle.reals.specs.Real.{point_at, e_at, pointed, real_step, real}

-- the bytes before byte n, that byte and the bytes after it are the whole text
around : (s : List ℕ) (n : ℕ) → ltb n (length s) ≡ true → length (take n s) + 1 + length (drop (n + 1) s) ≡ length s
around s n e = omega (arith, ltb-true, length-take n s, length-drop (n + 1) s)

pointed_room : (s : List ℕ) → RoomFor (length s) (pointed s)
unfolding pointed spell
pointed_room s =
    let n = point_at s in
    let a = take n s in
    let b = drop (n + 1) s in
    cond_elim (RoomFor (length s)) (ltb n (length s))
    (λ e. omega (arith, around s n e, together (cardinal a) (other (bytes "point") ∷ digits b), cardinal_room a, digits_room b))
    (λ e. omega (arith, cardinal_room s))

real_step_room : (f : List ℕ → List Word) (s : List ℕ) → ((t : List ℕ) → length t < length s → RoomFor (length t) (f t)) → RoomFor (length s) (real_step f s)
unfolding real_step span spell
real_step_room f [] h = pointed_room []
real_step_room f (b ∷ s) h =
    let t = b ∷ s in
    let n = e_at t in
    let P = RoomFor (length t) in
    let rest = h s (omega arith) in
    cond_elim P (starts_with (code "-") t) (λ e. omega arith) (λ e.
    cond_elim P (starts_with (code "+") t) (λ e. omega arith) (λ e.
    cond_elim P (ltb n (length t)) (λ e.
    let l = around t n e in
    omega (
      arith,
      together (f (take n t)) (other (bytes "e") ∷ f (drop (n + 1) t)),
      h (take n t) (omega arith),
      h (drop (n + 1) t) (omega arith),
    )) (λ e. pointed_room t)))

-- the words of a text's real number fit in the room for a text
pub real_room : (s : List ℕ) → RoomFor (length s) (real s)
unfolding real
real_room = recur_induct (λ s. RoomFor (length s)) [] real_step real_step_room
