-- The parser that `clap` is given for a form, which no public contract cites.
use Rattle.std.specs.Prelude.{true, List, fold, Some}
use Rattle.clap.specs.Words.{App, Rule, new_app, new_rule, with_rule}
use Rattle.command_words.specs.Arguments.{ArgumentText, ArgumentForm}

-- the rule for an option of this name, which takes a value
abbrev pub rule_for : ArgumentText → Rule
rule_for name = record (new_rule name) { long = Some name }

-- a parser of the words after the program's name and the command's name, with no `--help`
abbrev pub bare_parser : ArgumentText → App
bare_parser word =
    let app = new_app word in
    record app { top = record app.top { no_binary_name = true; disable_help_flag = true } }

-- a parser with positionals of these names added
abbrev pub with_positionals : App → List ArgumentText → App
with_positionals app names = fold (λ parser name. with_rule parser (new_rule name)) app names

-- a parser with options of these names added
abbrev pub with_options : App → List ArgumentText → App
with_options app names = fold (λ parser name. with_rule parser (rule_for name)) app names

-- a parser that has the positionals and the options of a form, and no other
abbrev pub parser_for : ArgumentText → ArgumentForm → App
parser_for word form = with_options (with_positionals (bare_parser word) form.positionals) form.options
