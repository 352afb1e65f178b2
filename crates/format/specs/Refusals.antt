-- The numbers of questions and refusals.
use Rattle.std.specs.Prelude.{ℕ, ◌+◌, Result, Ok, Err}
use Rattle.format.specs.declared.refusals.Question.{Question}
use Rattle.format.specs.declared.refusals.Refusal.{Refusal}

abbrev pub question_no : Question → ℕ
question_no Question.Length = 1
question_no Question.Byte = 2
question_no Question.Line = 3
question_no Question.Limit = 4
question_no Question.Rec = 5
question_no Question.Descriptor = 6
question_no Question.Type = 7
question_no Question.Prohibited = 8
question_no Question.NotAllowed = 9
question_no Question.Missing = 10
question_no Question.Repeated = 11
question_no Question.Value = 12
question_no Question.Key = 13
question_no Question.Size = 14
question_no Question.Singular = 30

-- those of a file as it is are the question's own, those of what an edit makes are raised by a hundred
abbrev pub refusal_no : Refusal → ℕ
refusal_no (Refusal.File q) = question_no q
refusal_no Refusal.Form = 20
refusal_no Refusal.Set = 21
refusal_no Refusal.Record = 22
refusal_no Refusal.Field = 23
refusal_no Refusal.Emptied = 24
refusal_no Refusal.Illegal = 25
refusal_no Refusal.Large = 26
refusal_no Refusal.Room = 27
refusal_no Refusal.List = 28
refusal_no Refusal.Run = 29
refusal_no Refusal.Numberless = 31
refusal_no Refusal.Uncounted = 32
refusal_no Refusal.Expression = 33
refusal_no Refusal.Numbers = 34
refusal_no Refusal.Spare = 35
refusal_no Refusal.SpareSet = 36
refusal_no (Refusal.Result q) = 100 + question_no q

-- the number of the first question that says no, 0 if all say yes
abbrev pub no_of : {A : Type 0} → Result A Question → ℕ
no_of (Ok x) = 0
no_of (Err q) = question_no q

abbrev pub refused_no : {A : Type 0} → Result A Refusal → ℕ
refused_no (Ok x) = 0
refused_no (Err r) = refusal_no r
