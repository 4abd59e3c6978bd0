-- What commands write.
use Rattle.std.specs.Prelude.{ℕ, ◌≡◌, ◌<◌, List, length, Option, IfSome, codes}
use Rattle.command_words.specs.{AskForCommand}
use Rattle.command_words.specs.declared.command.Command.{Command}
use Rattle.outside_io.specs.{IsBeginning}
use Rattle.command_words.specs.declared.command.Command.TheVariants.{Weigh, Report, Format, Audit, Watch, Make, Demo}
use Rattle.command_words.specs.declared.settings.Settings.{Settings}
use Rattle.prefix_lattice.specs.{PrefixValue}
use Rattle.session_audit.specs.{IsAuditText, IsSoundAudit}
use Rattle.session_watch.specs.{IsWatchOf}
use Rattle.traffic_maker.specs.{made_capture}
use Rattle.hhh_engine.specs.Demo.{IsDemoText}
use Rattle.hhh_engine.specs.Inputs.{InputBytes, HoldsOfAudit, WereRead}
use Rattle.hhh_engine.specs.Weigh.{IsWeightText}
use Rattle.report_session.specs.{SessionKeeping, IsSession, IsSessionInPart}
use Rattle.hhh_engine.specs.Rules.{RunRules}
use Rattle.report_session.specs.{WritesAnswer}

-- the text of `format`: one line, which says that the store is formatted
abbrev pub formatted_answer : List ℕ
formatted_answer = codes "formatted\n"

-- the text that a command writes for its inputs, where they are known
abbrev pub IsAnswer : RunRules → SessionKeeping → Command → InputBytes → List ℕ → Type 0
IsAnswer rules keeping (Weigh prefix settings) read text =
    IfSome read.capture (λ file. IsWeightText prefix settings file text)
IsAnswer rules keeping (Report settings) read text = IsSession settings rules.dealing keeping read.store read.capture text
IsAnswer rules keeping (Format settings) read text = text ≡ formatted_answer
IsAnswer rules keeping (Audit settings) read text =
    HoldsOfAudit settings read (λ file session. IsSoundAudit settings rules.dealing file session text)
IsAnswer rules keeping (Watch rule grain) read text = IfSome read.text (λ session. IsWatchOf rules.judging rule grain session text)
IsAnswer rules keeping (Make seed frames) read text = text ≡ made_capture seed frames
IsAnswer rules keeping (Demo seed frames settings) read text = IsDemoText settings rules.dealing seed frames text

-- a strict prefix of a text
pub record IsUnfinished (IsText : List ℕ → Type 0) (front : List ℕ) : Type 0 where
  pub text : List ℕ
  pub is_text : IsText text
  pub begins : IsBeginning front text
  pub cut : length front < length text

-- a strict prefix of the text with the weight of a prefix
abbrev pub IsWeighInPart : PrefixValue → Settings → List ℕ → List ℕ → Type 0
IsWeighInPart prefix settings file front = IsUnfinished (IsWeightText prefix settings file) front

-- a strict prefix of the text of a command
abbrev pub IsAnswerInPart : RunRules → SessionKeeping → Command → InputBytes → List ℕ → Type 0
IsAnswerInPart rules keeping (Weigh prefix settings) read front =
    IfSome read.capture (λ file. IsWeighInPart prefix settings file front)
IsAnswerInPart rules keeping (Report settings) read front = IsSessionInPart settings rules.dealing keeping read.store read.capture front
IsAnswerInPart rules keeping (Format settings) read front = IsUnfinished (λ text. text ≡ formatted_answer) front
IsAnswerInPart rules keeping (Audit settings) read front =
    HoldsOfAudit settings read (λ file session. IsUnfinished (IsAuditText settings rules.dealing file session) front)
IsAnswerInPart rules keeping (Watch rule grain) read front =
    IfSome read.text (λ session. IsUnfinished (IsWatchOf rules.judging rule grain session) front)
IsAnswerInPart rules keeping (Make seed frames) read front = IsUnfinished (λ text. text ≡ made_capture seed frames) front
IsAnswerInPart rules keeping (Demo seed frames settings) read front = IsUnfinished (IsDemoText settings rules.dealing seed frames) front

-- the text of the command that the arguments ask for was written, for its inputs, which were read to their ends
pub record Answers (rules : RunRules) (keeping : SessionKeeping) (words : List (List ℕ)) (read : InputBytes)
    (old new : Option (List ℕ)) : Type 0 where
  pub command : Command
  pub asked : AskForCommand words command
  pub read_to_end : WereRead command read
  pub answer : WritesAnswer (IsAnswer rules keeping command read) old new

-- bytes with which such a text may begin were written, and not all of it, after the inputs were read to their ends
pub record AnswersInPart (rules : RunRules) (keeping : SessionKeeping) (words : List (List ℕ)) (read : InputBytes)
    (old new : Option (List ℕ)) : Type 0 where
  pub command : Command
  pub asked : AskForCommand words command
  pub read_to_end : WereRead command read
  pub answer : WritesAnswer (IsAnswerInPart rules keeping command read) old new
