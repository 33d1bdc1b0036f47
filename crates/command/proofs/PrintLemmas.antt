-- How far a text is printed.
use Rattle.std.proofs.Common.{◌≡◌, ◌≤◌, ℕ, List, [], ◌++◌, take, drop, Option, Some, None, Result, Ok, Err, OnOk, OnErr, IsErrOf, ◌⊎◌, inl, inr, subst, refl, sym, ap, ◌∙◌, append_assoc, take-append-drop}
use Rattle.std.proofs.lemmas.List.{append-nil}
use Rattle.std.specs.Io.KnownBytes.{append_known}
use Rattle.text_base.specs.declared.sink.SinkError.{SinkError}
use Rattle.text_base.specs.declared.sink.SinkError.TheVariants.{Failed, Memory}
use Rattle.command.specs.Answers.{IsMain}
use Rattle.command.specs.Print.{SinkCounts, HasFailed, WasDenied, NoneFell, IsPrefix, PrintsLine, PrintsCut}
use Rattle.command.specs.declared.status.Status.{Status}
use Rattle.command.specs.declared.status.Status.TheVariants.{Done, Refused}

-- The rest is still to be printed. What stood before it was written.
pub record StillPrints (text rest : List ℕ) (old new : Option (List ℕ)) (faults_old faults_new denials_old denials_new : ℕ) (reliable_old reliable_new : Type 0) : Type 0 where
  pub part : List ℕ
  pub split : text ≡ part ++ rest
  pub wrote : new ≡ append_known old part
  pub count : faults_old ≤ faults_new
  pub denial_count : denials_old ≤ denials_new
  pub reliable : reliable_old → reliable_new × (faults_new ≡ faults_old)

-- nothing more was written
pub append_known_nil : (known : Option (List ℕ)) → append_known known [] ≡ known
append_known_nil None = refl
append_known_nil (Some xs) = ap Some (append-nil xs)

-- two pieces one after the other are one piece
append_known_twice : (known : Option (List ℕ)) (a b : List ℕ) → append_known (append_known known a) b ≡ append_known known (a ++ b)
append_known_twice None a b = refl
append_known_twice (Some xs) a b = ap Some (append_assoc xs a b)

-- what was written, and more
pub wrote_more : (old middle new : Option (List ℕ)) (part more : List ℕ) → middle ≡ append_known old part → new ≡ append_known middle more → new ≡ append_known old (part ++ more)
wrote_more old middle new part more before after = after ∙ ap (λ w. append_known w more) before ∙ append_known_twice old part more

-- the first bytes of the rest join the part
pub split_more : (text part rest : List ℕ) (count : ℕ) → text ≡ part ++ rest → text ≡ (part ++ take count rest) ++ drop count rest
split_more text part rest count split = split ∙ ap (λ (l : List ℕ). part ++ l) (sym (take-append-drop count rest)) ∙ sym (append_assoc part (take count rest) (drop count rest))

-- after the line was put, as far as the sink took it
line_put : (before now : SinkCounts) (middle new : Option (List ℕ)) (line : List ℕ) (outcome : Result (Unit {0}) SinkError)
    → OnOk outcome (new ≡ append_known middle line)
    → OnErr outcome ((part : List ℕ) × IsPrefix part line × (new ≡ append_known middle part))
    → (IsErrOf outcome Failed → HasFailed before now) → (IsErrOf outcome Memory → WasDenied before now)
    → (text : List ℕ) × (new ≡ append_known middle text) × PrintsLine before now line text
line_put before now middle new line (Ok done) ok err failed denied = (line, ok, inl refl)
line_put before now middle new line (Err Failed) ok err failed denied = (err.0, err.2, inr (inl (failed refl), err.1))
line_put before now middle new line (Err Memory) ok err failed denied = (err.0, err.2, inr (inr (denied refl), err.1))

-- a part of the text was put, then the line, as far as the sink took it
pub cut_put : (Cause : SinkCounts → SinkCounts → Type 0) (before cut now : SinkCounts) (old middle new : Option (List ℕ)) (main line : List ℕ)
    → NoneFell before cut → Cause before cut → NoneFell cut now
    → (part : List ℕ) × IsPrefix part main × (middle ≡ append_known old part)
    → (outcome : Result (Unit {0}) SinkError) → OnOk outcome (new ≡ append_known middle line)
    → OnErr outcome ((part : List ℕ) × IsPrefix part line × (new ≡ append_known middle part))
    → (IsErrOf outcome Failed → HasFailed cut now) → (IsErrOf outcome Memory → WasDenied cut now)
    → (text : List ℕ) × (new ≡ append_known old text) × PrintsCut Cause before now main line text
cut_put Cause before cut now old middle new main line until cause since (part, first, put) outcome ok err failed denied =
    let (text, after, last) = line_put cut now middle new line outcome ok err failed denied in (
      part ++ text,
      wrote_more old middle new part text put after,
      record { cut = cut; until_cut = until; cause = cause; since_cut = since; part = part; rest = text; all = refl; first = first; line_after = last },
    )

-- the statuses of a report and of refusals
pub main_is : (status : Status) → (status ≡ Done) ⊎ (status ≡ Refused) → IsMain status
main_is status (inl done) = subst IsMain (sym done) tt
main_is status (inr refused) = subst IsMain (sym refused) tt
