use Rattle.std.proofs.Common.{refl}
use Rattle.command_words.proofs.TextSearchLemmas.{text_search_tells_contained}
use Rattle.command_words.proofs.form_names.FormNames.has_option.Goals as goal

pub returns : goal.returns
returns c = text_search_tells_contained c.args.self.now.options.now _ c.args.name.now c.contains.result refl c.contains.ensures.value
