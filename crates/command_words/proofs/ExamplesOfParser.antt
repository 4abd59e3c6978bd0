-- Worked examples of the parser that `clap` is given, and of what it finds.
use Rattle.std.proofs.Common.{◌≡◌, [], ◌∷◌, Some, true, refl, codes}
use Rattle.clap.specs.Words.{found_of, first_value, new_rule}
use Rattle.clap.specs.declared.parser.matches.ArgMatches.{ArgMatches}
use Rattle.command_words.specs.FormNames.{form_of}
use Rattle.command_words.specs.Matches.{AreMatchesOf, MatchWords, values_in}
use Rattle.command_words.specs.Parsing.{rule_for, bare_parser, with_positionals, with_options}
use Rattle.command_words.specs.Parsing.{parser_for}
use Rattle.command_words.specs.declared.command_word.CommandWord.TheVariants.{Weigh}
use Rattle.command_words.specs.declared.opt.Opt.TheVariants as opt
use Rattle.command_words.proofs.TextSearchLemmas.{text_search_finds_none}
use Rattle.command_words.proofs.Examples.{arguments}
use Rattle.command_words.proofs.ExamplesOfWords.{weigh_line, words_of_a_command}

pub option_by_its_long_name : (rule_for (codes "phi")).long ≡ Some (codes "phi")
option_by_its_long_name = refl

-- the first word is not the program's name, and `--help` has no meaning
pub first_word_is_an_argument : (bare_parser (codes "report")).top.no_binary_name ≡ true
first_word_is_an_argument = refl

pub no_help : (bare_parser (codes "report")).top.disable_help_flag ≡ true
no_help = refl

pub positionals_in_their_order : (with_positionals (bare_parser (codes "weigh"))
    (codes "SRC" ∷ codes "DST" ∷ [])).top.rules ≡ new_rule (codes "SRC") ∷ new_rule (codes "DST") ∷ []
positionals_in_their_order = refl

pub options_behind_what_stands : (with_options (bare_parser (codes "report")) (codes "phi" ∷ [])).top.rules
    ≡ rule_for (codes "phi") ∷ []
options_behind_what_stands = refl

pub parser_of_weigh
    : (parser_for (codes "weigh") (form_of Weigh)).top.rules
    ≡ new_rule (codes "SRC") ∷ new_rule (codes "DST") ∷ rule_for (codes "capture")
    ∷ rule_for (codes "weigh") ∷ rule_for (codes "front") ∷ []
parser_of_weigh = refl

-- what is found among `--weigh=packets 10.0.0.0/8 --capture a.pcap 20.0.0.0/8`
pub second_positional_is_told : (matches : ArgMatches) → AreMatchesOf (form_of Weigh) arguments matches
    → first_value (found_of matches) (codes "DST") ≡ Some (codes "20.0.0.0/8")
second_positional_is_told matches tells = tells.positionals 1 (codes "DST") refl

pub capture_is_told : (matches : ArgMatches) → AreMatchesOf (form_of Weigh) arguments matches
    → first_value (found_of matches) (codes "capture") ≡ Some (codes "a.pcap")
capture_is_told matches tells =
    tells.options (codes "capture") (text_search_finds_none (codes "SRC" ∷ codes "DST" ∷ []) (codes "capture") refl)

pub weighing_is_told : (matches : ArgMatches) → AreMatchesOf (form_of Weigh) arguments matches
    → values_in matches opt.Weigh ≡ Some (codes "packets")
weighing_is_told matches tells =
    tells.options (codes "weigh") (text_search_finds_none (codes "SRC" ∷ codes "DST" ∷ []) (codes "weigh") refl)

pub words_are_told : (matches : ArgMatches) → AreMatchesOf (form_of Weigh) arguments matches
    → MatchWords weigh_line Weigh matches
words_are_told matches tells = record { arguments = arguments; are_words = words_of_a_command; told = tells }
