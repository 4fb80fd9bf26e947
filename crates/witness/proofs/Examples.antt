-- Whole sheets and their call sheets: the definitions are evaluated. Assumes nothing.
use mathlib.Core.Path.{◌≡◌, refl}
use mathlib.Core.List.{List, [], ◌∷◌}
use Prim.Native.String.{String}
use mathlib.Core.Bool.{Bool, true}
use Rattle.lists.specs.Bytes.{bytes, same, non_empty, all, count_if}
use Rattle.shapes.specs.Shapes.{is_comma_groups, is_exponent, is_unsigned, is_ordinal, has_unit}
use Rattle.shapes.specs.Times.{time_parts}
use Rattle.witness.proofs.Unfolded.{unfold_tokens, unfold_shapes, unfold_readings, unfold_lines}
use Rattle.call_spec.specs.Sheet.{call_sheet}

-- a sheet, and its call sheet
infix 70 ◌calls◌
pub data CallExample : Type 0 where
  ◌calls◌ : String → String → CallExample

-- document 01's example; sentences that end, and some that do not; full hours; a name for most rows; ranges and fractions, names
-- next to them, and fractions past 64 bits
unfoldable pub call_examples : List CallExample
call_examples =
    "Bar 12 at 9:30. Rack 5mm (21st)\n"
    calls "+ bar\n- twelve\n- at\n- nine thirty\n+ rack\n- five millimeters\n- twenty first\n"
    ∷ "Yahoo! is\nNote: me? a\n\nb Abcd. Who Dr. Who Abc.  Who Yahoo!\n\nis"
    calls "+ yahoo\n- is\n- note\n+ me\n+ a\n+ b\n- abcd\n+ who\n- dr\n- who\n- abc\n+ who\n- yahoo\n+ is\n"
    ∷ "end. then Stop! now yahoo? is Yahoo! Is ABCD. Who abc. Who \" 5"
    calls "+ end\n- then\n- stop\n+ now\n- yahoo\n+ is\n- yahoo\n+ is\n- abcd\n- who\n- abc\n+ who\n-\n- five\n"
    ∷ "9:00 0:00 00:00 9:00% 9:00PM 9"
    calls "+ nine o'clock\n- zero o'clock\n- o'clock\n- nine o'clock per cent\n- nine p m\n- nine\n"
    ∷ "A.b 1,200 007 1.5E3 -2 5% 5kg 3lbs"
    calls "+ _a b\n- one thousand two hundred\n- zero zero seven\n- one point five e three\n- minus two\n- five per cent\n- five kilograms\n- three pounds\n"
    ∷ "12-18 007-5 0-00 12-18% 1-2-3 -5-6 5-"
    calls "+ twelve to eighteen\n- zero zero seven to five\n- zero to zero zero\n- twelve to eighteen per cent\n- 1-2-3\n- -5-6\n- 5-\n"
    ∷ "1/2 5/8 1/8 7/4 3/3 0/0 01/2"
    calls "+ a half\n- five eighth 's\n- one eighth\n- seven slash four\n- three slash three\n- zero slash zero\n- one second\n"
    ∷ "0005/8 00/5 00/00 1/2% 1/2/3 12-1/2"
    calls "+ zero thousand five eighth 's\n- fifth\n- slash\n- a half per cent\n- 1/2/3\n- 12-1/2\n"
    ∷ "0/18446744073709551616"
    calls "+ zero one eight four four six seven four four zero seven three seven zero nine five five one six one sixth\n"
    ∷ "18446744073709551617/2"
    calls "+ one eight four four six seven four four zero seven three seven zero nine five five one six one seven slash two\n"
    ∷ []

unfoldable pub example_holds : CallExample → Bool
example_holds (s calls t) = same (call_sheet (bytes s)) (bytes t)

-- each sheet has the call sheet that stands beside it
pub call_examples_hold : all example_holds call_examples ≡ true
unfolding call_examples example_holds unfold_tokens unfold_shapes unfold_readings unfold_lines non_empty count_if is_ordinal is_comma_groups is_exponent is_unsigned has_unit time_parts
call_examples_hold = refl
