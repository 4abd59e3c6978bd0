-- The words have one meaning, so what is read soundly is read exactly.
use Rattle.std.proofs.Common.{◌≡◌, ◌-◌, ◌∙◌, inl, inr, refl, sym, ap, subst, arith, length, take, drop, Bor, List, ℕ, Err}
use Rattle.std.proofs.lemmas.List.{length-drop, length-map, take_rest}
use Rattle.command_words.specs.{argument_texts}
use Rattle.command_words.specs.declared.settings.Settings.{Settings}
use Rattle.site_merge.specs.SiteWords.{AskBehind, HasFaultBehind, site_options, stored_settings}
use Rattle.site_merge.specs.declared.site_words.SiteWordsRefusal.TheVariants.{Bad}
use Rattle.site_merge.specs.declared.site_words.SiteWords.TheVariants.{Refused, TooMany}
use Rattle.site_merge.proofs.SiteWordLemmas.{site_words_lack_form, site_words_have_no_count, site_words_have_one_count}
use Rattle.site_merge.proofs.SiteWordLemmas.{site_words_have_one_rest, site_words_are_few, site_words_of_many_names}
use Rattle.site_merge.proofs.SiteWordLemmas.{site_words_of_few_names, site_words_ask_behind, site_words_have_option_fault}
use Rattle.site_merge.proofs.SiteWordLemmas.{site_words_have_one_refusal, site_words_have_one_setting, site_words_read_lack_fault}
use Rattle.site_merge.proofs.SiteWordLemmas.{site_words_asked_lack_memory, site_words_out_of_memory, site_words_refused_options}
use Rattle.site_merge.proofs.SiteWordLemmas.{site_words_tell_option_fault, site_words_are_of_report, site_words_of_own_options}
use Rattle.site_merge.proofs.SiteWordLemmas.{site_words_counted_by_own_options, site_words_of_refusal, site_words_refused_as}
use Rattle.site_merge.proofs.words.read_behind.Goals as goal

pub returns-in_default-clause-bad : goal.returns-in_default-clause-bad
returns-in_default-clause-bad c fault same =
    let behind = argument_texts c.args.behind.now in
    subst (HasFaultBehind behind) (site_words_have_one_refusal Refused fault same)
    (site_words_have_no_count behind (site_words_counted_by_own_options _ behind _ c.option_names.ensures c.in_default.ensures.exact))

pub returns-in_default-clause-complete : goal.returns-in_default-clause-complete
returns-in_default-clause-complete c settings phi names asks =
    let behind = argument_texts c.args.behind.now in
    absurd (site_words_have_no_count behind (site_words_counted_by_own_options _ behind _ c.option_names.ensures c.in_default.ensures.exact)
    asks.options names asks.parted)

pub returns-in_default-clause-exact : goal.returns-in_default-clause-exact
returns-in_default-clause-exact c fault has =
    let behind = argument_texts c.args.behind.now in
    let never = site_words_have_no_count behind (site_words_counted_by_own_options _ behind _ c.option_names.ensures c.in_default.ensures.exact) in
    inl (ap (λ f. Err (Bad f)) (sym (site_words_lack_form behind never fault has)))

pub returns-then-behind-count-gt-MOST_SITES-clause-bad : goal.returns-then-behind-count-gt-MOST_SITES-clause-bad
returns-then-behind-count-gt-MOST_SITES-clause-bad c fault same =
    let words = c.args.behind.now in let count = c.in-Some.count in let behind = argument_texts words in
    let front = argument_texts (take count words) in let rest = argument_texts (drop count words) in
    let own = site_words_of_own_options _ behind front rest c.option_names.ensures c.in-Some.ensures.some in
    let many : length rest ≡ length words - count = length-map (drop count words) (λ (word : Bor (List ℕ)). word.now) ∙ length-drop count words in
    subst (HasFaultBehind behind) (site_words_have_one_refusal TooMany fault same)
    (front, rest, own, omega (arith, many, c.if-behind-count-gt-MOST_SITES.true))

pub returns-then-behind-count-gt-MOST_SITES-clause-complete : goal.returns-then-behind-count-gt-MOST_SITES-clause-complete
returns-then-behind-count-gt-MOST_SITES-clause-complete c settings phi names asks =
    let words = c.args.behind.now in let count = c.in-Some.count in let behind = argument_texts words in
    let front = argument_texts (take count words) in let rest = argument_texts (drop count words) in
    let own = site_words_of_own_options _ behind front rest c.option_names.ensures c.in-Some.ensures.some in
    let exact = site_words_counted_by_own_options _ behind _ c.option_names.ensures c.in-Some.ensures.exact in
    let many : length rest ≡ length words - count = length-map (drop count words) (λ (word : Bor (List ℕ)). word.now) ∙ length-drop count words in
    absurd (site_words_are_few behind front rest own (site_words_have_one_count behind front rest count own exact) asks.options names asks.parted
    (omega (arith, many, c.if-behind-count-gt-MOST_SITES.true)) asks.few)

pub returns-then-behind-count-gt-MOST_SITES-clause-exact : goal.returns-then-behind-count-gt-MOST_SITES-clause-exact
returns-then-behind-count-gt-MOST_SITES-clause-exact c fault has =
    let words = c.args.behind.now in let count = c.in-Some.count in let behind = argument_texts words in
    let front = argument_texts (take count words) in let rest = argument_texts (drop count words) in
    let own = site_words_of_own_options _ behind front rest c.option_names.ensures c.in-Some.ensures.some in
    let exact = site_words_counted_by_own_options _ behind _ c.option_names.ensures c.in-Some.ensures.exact in
    let many : length rest ≡ length words - count = length-map (drop count words) (λ (word : Bor (List ℕ)). word.now) ∙ length-drop count words in
    inl (ap (λ f. Err (Bad f))
    (sym (site_words_of_many_names behind front rest own (site_words_have_one_count behind front rest count own exact)
    (omega (arith, many, c.if-behind-count-gt-MOST_SITES.true)) fault has)))

pub refusal_of-requires : goal.refusal_of-requires
refusal_of-requires c kind same =
    let words = c.args.behind.now in let count = c.in-Some.count in let behind = argument_texts words in
    let own =
    site_words_of_own_options _ behind (argument_texts (take count words)) (argument_texts (drop count words)) c.option_names.ensures
    c.in-Some.ensures.some in
    c.in-Err.ensures.named site_options own.arguments site_words_are_of_report own.well_formed kind (ap Err same)

pub returns-in-Ok-clause-ok : goal.returns-in-Ok-clause-ok
returns-in-Ok-clause-ok c =
    let words = c.args.behind.now in let count = c.in-Some.count in let behind = argument_texts words in
    let front = argument_texts (take count words) in let rest = argument_texts (drop count words) in
    let own = site_words_of_own_options _ behind front rest c.option_names.ensures c.in-Some.ensures.some in
    let many : length rest ≡ length words - count = length-map (drop count words) (λ (word : Bor (List ℕ)). word.now) ∙ length-drop count words in
    subst (λ (names : List (Bor (List ℕ))). AskBehind behind c.store_settings.result c.in-Ok.all.phi (argument_texts names))
    (sym (take_rest words count)) record {
      options = front;
      parted = own;
      few = omega (arith, many, c.if-behind-count-gt-MOST_SITES.false);
      all = c.in-Ok.all;
      asked = c.in-Ok.ensures.ok;
      settings_are = c.store_settings.ensures;
      phi_is = refl;
    }

pub returns-in-Ok-clause-complete : goal.returns-in-Ok-clause-complete
returns-in-Ok-clause-complete c settings phi names asks =
    let words = c.args.behind.now in let count = c.in-Some.count in let behind = argument_texts words in
    let front = argument_texts (take count words) in let rest = argument_texts (drop count words) in
    let own = site_words_of_own_options _ behind front rest c.option_names.ensures c.in-Some.ensures.some in
    let only =
    site_words_have_one_count behind front rest count own
    (site_words_counted_by_own_options _ behind _ c.option_names.ensures c.in-Some.ensures.exact) in
    let same =
    site_words_have_one_setting c.in-Ok.all asks.all
    (c.in-Ok.ensures.complete asks.all (site_words_ask_behind behind front rest own only settings phi names asks)) in
    inl record {
      same_settings = c.store_settings.ensures ∙ ap stored_settings same ∙ sym asks.settings_are;
      same_phi = ap (λ (all : Settings). all.phi) same ∙ sym asks.phi_is;
      same_names =
          ap argument_texts (take_rest words count) ∙ sym (site_words_have_one_rest behind front rest own only asks.options names asks.parted);
    }

pub returns-in-Ok-clause-exact : goal.returns-in-Ok-clause-exact
returns-in-Ok-clause-exact c fault has =
    let words = c.args.behind.now in let count = c.in-Some.count in let behind = argument_texts words in
    let front = argument_texts (take count words) in let rest = argument_texts (drop count words) in
    let own = site_words_of_own_options _ behind front rest c.option_names.ensures c.in-Some.ensures.some in
    let only =
    site_words_have_one_count behind front rest count own
    (site_words_counted_by_own_options _ behind _ c.option_names.ensures c.in-Some.ensures.exact) in
    let many : length rest ≡ length words - count = length-map (drop count words) (λ (word : Bor (List ℕ)). word.now) ∙ length-drop count words in
    let bad = site_words_of_few_names behind front rest own only (omega (arith, many, c.if-behind-count-gt-MOST_SITES.false)) fault has in
    absurd (site_words_read_lack_fault c.in-Ok.all bad.0 (c.in-Ok.ensures.exact bad.0 bad.2))

pub returns-in-Err-clause-bad : goal.returns-in-Err-clause-bad
returns-in-Err-clause-bad c fault same =
    let words = c.args.behind.now in let count = c.in-Some.count in let behind = argument_texts words in
    let front = argument_texts (take count words) in let rest = argument_texts (drop count words) in
    let own = site_words_of_own_options _ behind front rest c.option_names.ensures c.in-Some.ensures.some in
    let only =
    site_words_have_one_count behind front rest count own
    (site_words_counted_by_own_options _ behind _ c.option_names.ensures c.in-Some.ensures.exact) in
    let many : length rest ≡ length words - count = length-map (drop count words) (λ (word : Bor (List ℕ)). word.now) ∙ length-drop count words in
    let bad =
    site_words_refused_options c.in-Err.refusal c.refusal_of.result fault c.refusal_of.ensures
    (site_words_of_refusal c.refusal_of.result (Bad fault) same) in
    site_words_have_option_fault behind front rest own only (omega (arith, many, c.if-behind-count-gt-MOST_SITES.false)) bad.0 fault bad.2
    (c.in-Err.ensures.bad bad.0 (ap Err bad.1))

pub returns-in-Err-clause-complete : goal.returns-in-Err-clause-complete
returns-in-Err-clause-complete c settings phi names asks =
    let words = c.args.behind.now in let count = c.in-Some.count in let behind = argument_texts words in
    let front = argument_texts (take count words) in let rest = argument_texts (drop count words) in
    let own = site_words_of_own_options _ behind front rest c.option_names.ensures c.in-Some.ensures.some in
    let only =
    site_words_have_one_count behind front rest count own
    (site_words_counted_by_own_options _ behind _ c.option_names.ensures c.in-Some.ensures.exact) in
    inr (ap Err
    (site_words_out_of_memory c.in-Err.refusal c.refusal_of.result c.refusal_of.ensures
    (site_words_asked_lack_memory c.in-Err.refusal asks.all
    (c.in-Err.ensures.complete asks.all (site_words_ask_behind behind front rest own only settings phi names asks)))))

pub returns-in-Err-clause-exact : goal.returns-in-Err-clause-exact
returns-in-Err-clause-exact c fault has =
    let words = c.args.behind.now in let count = c.in-Some.count in let behind = argument_texts words in
    let front = argument_texts (take count words) in let rest = argument_texts (drop count words) in
    let own = site_words_of_own_options _ behind front rest c.option_names.ensures c.in-Some.ensures.some in
    let only =
    site_words_have_one_count behind front rest count own
    (site_words_counted_by_own_options _ behind _ c.option_names.ensures c.in-Some.ensures.exact) in
    let many : length rest ≡ length words - count = length-map (drop count words) (λ (word : Bor (List ℕ)). word.now) ∙ length-drop count words in
    let bad = site_words_of_few_names behind front rest own only (omega (arith, many, c.if-behind-count-gt-MOST_SITES.false)) fault has in
    site_words_refused_as c.refusal_of.result fault
    (site_words_tell_option_fault c.in-Err.refusal c.refusal_of.result bad.0 fault c.refusal_of.ensures bad.1 (c.in-Err.ensures.exact bad.0 bad.2))
