use Rattle.shapes.proofs.Times.{splits_time, time_split_around}
use Rattle.shapes.proofs.split_time_meridiem.Goals as goal

pub returns-then-not-ends_in_meridiem : goal.returns-then-not-ends_in_meridiem
returns-then-not-ends_in_meridiem c =
    splits_time _ _ (rw (time_split_around c.args.s.now, ← c.ends_in_meridiem.ensures, c.if-not-ends_in_meridiem.true))

pub returns-in_err-hour : goal.returns-in_err-hour
returns-in_err-hour c =
    splits_time _ _
    (rw (
      time_split_around c.args.s.now,
      ← c.ends_in_meridiem.ensures,
      c.if-not-ends_in_meridiem.false,
      ← c.without_back-time.ensures,
      ← c.split_once.ensures,
      c.in_err-hour.was,
      c.from_residual.ensures,
    ))

pub returns-then-not-is_hour_minute : goal.returns-then-not-is_hour_minute
returns-then-not-is_hour_minute c =
    splits_time _ _
    (rw (
      time_split_around c.args.s.now,
      ← c.ends_in_meridiem.ensures,
      c.if-not-ends_in_meridiem.false,
      ← c.without_back-time.ensures,
      ← c.split_once.ensures,
      c.in_ok-hour.was,
      ← c.is_hour_minute.ensures,
      c.if-not-is_hour_minute.true,
    ))

pub returns : goal.returns
returns c =
    splits_time _ _
    (rw (
      time_split_around c.args.s.now,
      ← c.ends_in_meridiem.ensures,
      c.if-not-ends_in_meridiem.false,
      ← c.without_back-time.ensures,
      ← c.split_once.ensures,
      c.in_ok-hour.was,
      ← c.is_hour_minute.ensures,
      c.if-not-is_hour_minute.false,
    ))
