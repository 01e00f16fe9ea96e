-- What reading a book answers, as document 01's result: how much was read, or the refusal's number and line.
use Rattle.std.specs.Prelude.{Result, Ok, Err}
use Rattle.result.specs.Refusal.{number_of}
use Rattle.book.specs.Book.{BookResult, contents, refusal}
use Rattle.book.specs.declared.check.Read.{Read}
use Rattle.book.specs.declared.check.Refused.{Refused}

abbrev pub result_of : Result Read Refused → BookResult
result_of (Ok h) = contents h.rules h.nodes h.steps_at h.slots h.states
result_of (Err r) = refusal (number_of r.refusal) r.line
