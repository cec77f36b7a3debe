use Prim.Native.Nat.{◌-◌, ◌/◌}
use native.Mathlib.Omega.{arith}
use Rattle.writing.proofs.Decimals.{digits_most}
use Rattle.writing.proofs.Puts.{digits_none, digits_one, digits_more}
use Rattle.writing.proofs.+put_digits.Goals as goal

pub returns-then-k-eq0-clause-offset : goal.returns-then-k-eq0-clause-offset
returns-then-k-eq0-clause-offset t c = (digits_none c.args.out.now _ c.args.n _ c.if-k-eq0.true).0

pub returns-then-k-eq0-clause-bytes : goal.returns-then-k-eq0-clause-bytes
returns-then-k-eq0-clause-bytes t c = (digits_none _ c.args.at _ _ c.if-k-eq0.true).1

pub returns-then-n-lt10-clause-offset : goal.returns-then-n-lt10-clause-offset
returns-then-n-lt10-clause-offset t c = (digits_one _ _ _ _ c.if-k-eq0.false _ c.if-n-lt10.true c.store.ensures).0

pub returns-then-n-lt10-clause-bytes : goal.returns-then-n-lt10-clause-bytes
returns-then-n-lt10-clause-bytes t c = (digits_one _ _ _ _ c.if-k-eq0.false _ c.if-n-lt10.true c.store.ensures).1

pub overflow_add-result-2 : goal.overflow_add-result-2
overflow_add-result-2 t c = omega (arith, digits_most (c.args.k - 1) (c.args.n / 10), c.put_digits-e.ensures.offset)

pub returns-clause-offset : goal.returns-clause-offset
returns-clause-offset t c =
    let e = c.put_digits-e.ensures in
    (digits_more _ _ _ _ c.if-k-eq0.false c.if-n-lt10.false _ _ _ e.offset e.bytes c.store-2.ensures).0

pub returns-clause-bytes : goal.returns-clause-bytes
returns-clause-bytes t c =
    let e = c.put_digits-e.ensures in
    (digits_more _ _ _ _ c.if-k-eq0.false c.if-n-lt10.false _ _ _ e.offset e.bytes c.store-2.ensures).1
