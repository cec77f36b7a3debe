-- `put_digits` meets its contract: each call puts fewer digits.
use Rattle.writing.proofs.+put_digits.Given as goal

abbrev pub decreases-put_digits : goal.decreases-put_digits
decreases-put_digits l = l.k
