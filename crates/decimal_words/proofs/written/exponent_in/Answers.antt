-- `decimal_words::written::exponent_in` meets its contract. Assumes nothing.
use mathlib.Core.Path.{sym}
use native.Mathlib.Omega.{arith}
use borrow.Author.Tests.{lt-ltb, le-ltb}
use lib.ListN.{length}
use Rattle.lines.specs.Lines.{stretch}
use Rattle.decimal_words.specs.Numbers.{is_mark, exponent_in}
use Rattle.decimal_words.proofs.written.exponent_in.Goals as goal

pub returns-then-mark-u : goal.returns-then-mark-u
unfolding exponent_in
returns-then-mark-u c = rw (c.read_exponent.ensures, c.bytes_behind.ensures, c.before_mark-mark.ensures.0) (sym (rw (lt-ltb (stretch is_mark c.args.u.now) (length c.args.u.now) (omega (arith, c.before_mark-mark.ensures.0, c.if-mark-u.true)))))

pub returns : goal.returns
unfolding exponent_in
returns c = sym (rw (le-ltb (stretch is_mark c.args.u.now) (length c.args.u.now) (omega (arith, c.before_mark-mark.ensures.0, c.if-mark-u.false))))
