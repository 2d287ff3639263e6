-- `digit_count` meets its contract: a number from 10 ^ k on and below ten times that has k + 1 digits. The last arm is every further number of 32 bits.
use mathlib.Core.Path.{sym}
use native.Mathlib.Omega.{arith}
use Rattle.text.proofs.Backwards.{decimal-width}
use Rattle.text.proofs.Laws.{one-digit}
use Rattle.text.proofs.digit_count.Goals as goal

pub returns-in-0-to-9 : goal.returns-in-0-to-9
returns-in-0-to-9 c = sym (one-digit _ (omega arith))

pub returns-in-10-to-99 : goal.returns-in-10-to-99
returns-in-10-to-99 c = decimal-width 1 _ (omega arith) (omega arith)

pub returns-in-100-to-999 : goal.returns-in-100-to-999
returns-in-100-to-999 c = decimal-width 2 _ (omega arith) (omega arith)

pub returns-in-1000-to-9999 : goal.returns-in-1000-to-9999
returns-in-1000-to-9999 c = decimal-width 3 _ (omega arith) (omega arith)

pub returns-in-10000-to-99999 : goal.returns-in-10000-to-99999
returns-in-10000-to-99999 c = decimal-width 4 _ (omega arith) (omega arith)

pub returns-in-100000-to-999999 : goal.returns-in-100000-to-999999
returns-in-100000-to-999999 c = decimal-width 5 _ (omega arith) (omega arith)

pub returns-in-1000000-to-9999999 : goal.returns-in-1000000-to-9999999
returns-in-1000000-to-9999999 c = decimal-width 6 _ (omega arith) (omega arith)

pub returns-in-10000000-to-99999999 : goal.returns-in-10000000-to-99999999
returns-in-10000000-to-99999999 c = decimal-width 7 _ (omega arith) (omega arith)

pub returns-in-100000000-to-999999999 : goal.returns-in-100000000-to-999999999
returns-in-100000000-to-999999999 c = decimal-width 8 _ (omega arith) (omega arith)

pub returns-in_default : goal.returns-in_default
returns-in_default c = decimal-width 9 _ (omega arith) (omega (arith, c.ranges.n.fits))
