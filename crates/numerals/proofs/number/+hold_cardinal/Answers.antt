use Rattle.std.proofs.Common.{◌++◌, ◌-◌, ◌*◌, arith, get_or, take, drop, length, refl}
use Rattle.numerals.specs.Cardinal.{short_cardinal}
use Rattle.numerals.specs.Walk.{number_of}
use Rattle.numerals.proofs.Holding.{holds_nothing, holds_same, holds_more}
use Rattle.numerals.proofs.Cardinal.{cardinal_0, cardinal_1, cardinal_2, cardinal_3, cardinal_split, hundreds, scale_word}
use Rattle.numerals.proofs.number.+hold_cardinal.Goals as goal

pub returns-in-0 : goal.returns-in-0
returns-in-0 t c = holds_same _ (cardinal_0 c.args.ds.values.now (omega arith)) holds_nothing

pub returns-in-1 : goal.returns-in-1
unfolding number_of
returns-in-1 t c =
    holds_same _ (cardinal_1 c.args.ds.values.now (omega arith)) (rw (c.from.ensures, c.at.ensures) at c.hold.ensures)

pub returns-in-2 : goal.returns-in-2
returns-in-2 t c =
    holds_same _ (cardinal_2 c.args.ds.values.now (omega arith)) (rw (c.at-in-2.ensures, c.at-in-2-2.ensures) at c.hold_pair.ensures)

pub returns-in-3 : goal.returns-in-3
returns-in-3 t c =
    let ds = c.args.ds.values.now in
    holds_more (hundreds (get_or ds 0 0)) (short_cardinal (drop 1 ds)) (cardinal_3 ds (omega arith))
    (rw c.at-in-3.ensures at c.hold_hundreds.ensures)
    (rw c.tail.ensures at c.hold_cardinal.ensures)

pub returns-in_default : goal.returns-in_default
returns-in_default t c =
    let ds = c.args.ds.values.now in
    let k = c.scale_for-k.result in
    let n = length ds - 3 * k in
    holds_more (short_cardinal (take n ds)) (scale_word (take n ds) k ++ short_cardinal (drop n ds))
    (cardinal_split ds k (omega arith) (omega arith) (rw c.len.ensures at c.scale_for-k.ensures.0))
    (rw (c.front-left.ensures, c.len.ensures, c.from-in_default.ensures) at c.hold_cardinal-in_default.ensures)
    (holds_more (scale_word (take n ds) k) (short_cardinal (drop n ds)) refl
    (rw (c.is_zero_group.ensures, c.front-left.ensures, c.len.ensures, c.from-in_default.ensures) at c.hold_scale.ensures)
    (rw (c.tail-in_default.ensures, c.len.ensures, c.from-in_default.ensures) at c.hold_cardinal-in_default-2.ensures))
