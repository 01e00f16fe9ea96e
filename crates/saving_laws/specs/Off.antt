-- Document 02, order 3: what comes back of a monitor's state. A window that is pending and a delayed check's antecedent have bits; marks come back unset,
-- culprits as minus 1, and remaining as 0 where nothing is pending.
use Rattle.std.specs.Prelude.{false, cond}
use Rattle.monitor.specs.Mon.{Check, range_check, delayed_check, obligation, Mon, check, And, Or}
use Rattle.meaning.specs.Culprit.{minus_one}
use Rattle.meaning.specs.State.{CheckState, State}

abbrev pub off_check : (c : Check) → CheckState c → CheckState c
off_check (range_check p r) st = record { failed = false }
off_check (delayed_check p q r) st = record { prev_antecedent = st.prev_antecedent; failed = false }
off_check (obligation b p q r) st =
    record { pending = st.pending; remaining = cond st.pending st.remaining 0; failed = false; culprit = minus_one }

unfoldable pub switched_off : (m : Mon) → State m → State m
switched_off (check c) st = off_check c st
switched_off (And m n) st =
    record { left = switched_off m st.left; right = switched_off n st.right; failed = false; culprit = minus_one }
switched_off (Or m n) st =
    record { left = switched_off m st.left; right = switched_off n st.right; failed = false; culprit = minus_one }
