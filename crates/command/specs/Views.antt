-- What clauses see of the program's own types.
use Rattle.std.specs.Prelude.{ℕ, List, map, Result, Ok, Err}
use Rattle.command.specs.declared.status.Status.{Status}
use Rattle.command.specs.declared.status.Status.TheVariants.{Memory}
use Rattle.command.specs.declared.words.Request.{Request}
use Rattle.command.specs.declared.output.Output.{Output}
use Rattle.command.specs.declared.answers.Answer.{Answer}
use Rattle.command.specs.Words.{Command}
use Rattle.command.specs.Lines.{memory_line}

abbrev pub command_of : Request → Command
command_of r = record { file = r.file.now; out = r.out.now }

-- the outputs' names and bytes
abbrev pub texts_of : List Output → List (List ℕ × List ℕ)
texts_of outputs = map (λ o. (o.name.now, o.bytes.now)) outputs

-- an answer's status and text: where memory is wanted it has its own
abbrev pub status_of : {E : Type 0} → Result Answer E → Status
status_of (Ok answer) = answer.status
status_of (Err e) = Memory

abbrev pub text_of : {E : Type 0} → Result Answer E → List ℕ
text_of (Ok answer) = answer.text
text_of (Err e) = memory_line
