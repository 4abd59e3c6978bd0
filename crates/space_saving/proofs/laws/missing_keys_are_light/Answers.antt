use Rattle.space_saving.proofs.AddsLemmas.{missing_key_after_adds, least_count_after_adds}
use Rattle.space_saving.proofs.laws.missing_keys_are_light.Goals as goal

pub returns-clause-light : goal.returns-clause-light
returns-clause-light c = missing_key_after_adds

pub returns-clause-least : goal.returns-clause-least
returns-clause-least c = least_count_after_adds
