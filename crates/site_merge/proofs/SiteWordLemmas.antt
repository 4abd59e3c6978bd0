-- The words of `sites` have one meaning.
use Rattle.std.proofs.Common.{◌≡◌, ◌⊎◌, inl, inr, ◌<◌, ◌≤◌, ◌++◌, ◌∙◌, refl, sym, ap, subst, arith, ℕ, List, length, take, drop}
use Rattle.std.proofs.Common.{Result, Ok, Err, Some, None, Option, codes, false, true≢false}
use Rattle.std.specs.List.{All, Contains}
use Rattle.std.specs.Str.{bytes_eq}
use Rattle.std.proofs.lemmas.List.Elements.{All-contains, All-from_recursion}
use Rattle.std.proofs.lemmas.Slice.Eq.{bytes_eq-Decides}
use Rattle.std.proofs.Math.Seq.{take-append_seam, drop-append_seam}
use Rattle.checkpoint.specs.declared.settings.StoreSettings.{StoreSettings}
use Rattle.command_words.specs.{AreLimited, AreOptionsThenNames, AskForReport, HasReportFault, HaveWideShare, IsNamedOption, report_options}
use Rattle.command_words.specs.declared.opt.Opt.{Opt}
use Rattle.command_words.specs.declared.opt.Opt.TheVariants as opt
use Rattle.command_words.specs.declared.settings.Settings.{Settings}
use Rattle.command_words.specs.declared.words_kind.WordsKind.{WordsKind}
use Rattle.command_words.specs.declared.words_kind.WordsKind.TheVariants as report
use Rattle.command_words.specs.declared.words_kind.WordsRefusal.{WordsRefusal}
use Rattle.command_words.specs.declared.words_kind.WordsRefusal.TheVariants as refused
use Rattle.site_merge.specs.SiteCut.{site_limit}
use Rattle.site_merge.specs.SiteLine.{CanReport, IsSiteRefusal}
use Rattle.site_merge.specs.SiteWords.{AskBehind, HasBadOptions, HasFaultBehind, IsOptionFault, opt_of, site_options, stored_settings}
use Rattle.site_merge.specs.declared.site_words.SiteOpt.{SiteOpt}
use Rattle.site_merge.specs.declared.site_words.SiteOpt.TheVariants.{Weigh, Shards, Capacity, Phi, Deal, Bits}
use Rattle.site_merge.specs.declared.site_words.SiteWords.{SiteWords}
use Rattle.site_merge.specs.declared.site_words.SiteWords.TheVariants.{Refused, TooMany, BadNumber, OutOfLimits, BadChoice, Bound}
use Rattle.site_merge.specs.declared.site_words.SiteWordsRefusal.{SiteWordsRefusal}
use Rattle.site_merge.specs.declared.site_words.SiteWordsRefusal.TheVariants.{Bad, OutOfMemory}

-- words without options and names are refused, and nothing else is wrong with them
pub site_words_lack_form : (behind : List (List ℕ)) → HasFaultBehind behind Refused → (fault : SiteWords) → HasFaultBehind behind fault → fault ≡ Refused
site_words_lack_form behind never Refused has = refl
site_words_lack_form behind never TooMany has = absurd (never has.0 has.1 has.2)
site_words_lack_form behind never (BadNumber opt) has = absurd (never has.options has.names has.parted)
site_words_lack_form behind never (OutOfLimits opt) has = absurd (never has.options has.names has.parted)
site_words_lack_form behind never (BadChoice opt) has = absurd (never has.options has.names has.parted)
site_words_lack_form behind never Bound has = absurd (never has.options has.names has.parted)

-- no count of options leaves none
pub site_words_have_no_count : (behind : List (List ℕ)) → ((options names : List (List ℕ))
    → AreOptionsThenNames site_options behind options names → Path (Option ℕ) None (Some (length options)))
    → HasFaultBehind behind Refused
site_words_have_no_count behind exact options names parted = apart (length options) (exact options names parted)
  where
    apart : (count : ℕ) → Path (Option ℕ) None (Some count) → ⊥
    apart count same = cc

-- the options and names are those before and behind one place
module _ (behind front rest : List (List ℕ)) (own : AreOptionsThenNames site_options behind front rest)
    (only : (options names : List (List ℕ)) → AreOptionsThenNames site_options behind options names → length options ≡ length front) where
  pub site_words_have_one_front : (options names : List (List ℕ)) → AreOptionsThenNames site_options behind options names → options ≡ front
  site_words_have_one_front options names parted =
      sym (take-append_seam options names) ∙ ap (take (length options)) (sym parted.parted ∙ own.parted)
      ∙ ap (λ n. take n (front ++ rest)) (only options names parted) ∙ take-append_seam front rest

  pub site_words_have_one_rest : (options names : List (List ℕ)) → AreOptionsThenNames site_options behind options names → names ≡ rest
  site_words_have_one_rest options names parted =
      sym (drop-append_seam options names) ∙ ap (drop (length options)) (sym parted.parted ∙ own.parted)
      ∙ ap (λ n. drop n (front ++ rest)) (only options names parted) ∙ drop-append_seam front rest

  -- they can't be more than 8 and at most 8
  pub site_words_are_few : (options names : List (List ℕ)) → AreOptionsThenNames site_options behind options names → site_limit < length rest
      → length names ≤ site_limit → ⊥
  site_words_are_few options names parted many few =
      let same : length names ≡ length rest = ap length (site_words_have_one_rest options names parted) in
      omega (arith, same, many, few)

  -- more than 8 names are the only fault
  pub site_words_of_many_names : site_limit < length rest → (fault : SiteWords) → HasFaultBehind behind fault → fault ≡ TooMany
  site_words_of_many_names many Refused has = absurd (has front rest own)
  site_words_of_many_names many TooMany has = refl
  site_words_of_many_names many (BadNumber opt) has = absurd (site_words_are_few has.options has.names has.parted many has.few)
  site_words_of_many_names many (OutOfLimits opt) has = absurd (site_words_are_few has.options has.names has.parted many has.few)
  site_words_of_many_names many (BadChoice opt) has = absurd (site_words_are_few has.options has.names has.parted many has.few)
  site_words_of_many_names many Bound has = absurd (site_words_are_few has.options has.names has.parted many has.few)

  -- a fault of the options is one of these
  site_words_fault_at_front : (fault : SiteWords) → HasBadOptions behind fault → (kind : WordsKind) × IsOptionFault kind fault × HasReportFault front kind
  site_words_fault_at_front fault has = (
    has.kind,
    has.says,
    subst (λ options. HasReportFault options has.kind) (site_words_have_one_front has.options has.names has.parted) has.has,
  )

  -- of 1 to 8 names, each fault is one of the options
  pub site_words_of_few_names : length rest ≤ site_limit → (fault : SiteWords) → HasFaultBehind behind fault
      → (kind : WordsKind) × IsOptionFault kind fault × HasReportFault front kind
  site_words_of_few_names few Refused has = absurd (has front rest own)
  site_words_of_few_names few TooMany has =
      let same : length has.1 ≡ length rest = ap length (site_words_have_one_rest has.0 has.1 has.2) in
      absurd (omega (arith, same, few, has.3))
  site_words_of_few_names few (BadNumber opt) has = site_words_fault_at_front (BadNumber opt) has
  site_words_of_few_names few (OutOfLimits opt) has = site_words_fault_at_front (OutOfLimits opt) has
  site_words_of_few_names few (BadChoice opt) has = site_words_fault_at_front (BadChoice opt) has
  site_words_of_few_names few Bound has = site_words_fault_at_front Bound has

  -- and what the words ask for is what the options ask for behind `report`
  pub site_words_ask_behind : (settings : StoreSettings) (phi : ℕ) (names : List (List ℕ)) (asks : AskBehind behind settings phi names)
      → AskForReport front asks.all
  site_words_ask_behind settings phi names asks =
      subst (λ options. AskForReport options asks.all) (site_words_have_one_front asks.options names asks.parted) asks.asked

  -- a fault of the options is one of the words
  pub site_words_have_option_fault : length rest ≤ site_limit → (kind : WordsKind) (fault : SiteWords) → IsOptionFault kind fault
      → HasReportFault front kind → HasFaultBehind behind fault
  site_words_have_option_fault few kind Refused says has = absurd says
  site_words_have_option_fault few kind TooMany says has = absurd says
  site_words_have_option_fault few kind (BadNumber opt) says has =
      record { options = front; names = rest; parted = own; few = few; kind = kind; says = says; has = has }
  site_words_have_option_fault few kind (OutOfLimits opt) says has =
      record { options = front; names = rest; parted = own; few = few; kind = kind; says = says; has = has }
  site_words_have_option_fault few kind (BadChoice opt) says has =
      record { options = front; names = rest; parted = own; few = few; kind = kind; says = says; has = has }
  site_words_have_option_fault few kind Bound says has =
      record { options = front; names = rest; parted = own; few = few; kind = kind; says = says; has = has }

-- the option of `sites` that an option is, `bits` where it is none
abbrev site_words_option : Opt → SiteOpt
site_words_option opt.Weigh = Weigh
site_words_option opt.Shards = Shards
site_words_option opt.Capacity = Capacity
site_words_option opt.Phi = Phi
site_words_option opt.Deal = Deal
site_words_option _ = Bits

site_words_option-own : (at : SiteOpt) → site_words_option (opt_of at) ≡ at
site_words_option-own Weigh = refl
site_words_option-own Shards = refl
site_words_option-own Capacity = refl
site_words_option-own Phi = refl
site_words_option-own Deal = refl
site_words_option-own Bits = refl

-- the fault of words that a fault of options is
abbrev site_words_fault : WordsKind → SiteWords
site_words_fault (report.BadNumber at) = BadNumber (site_words_option at)
site_words_fault (report.OutOfLimits at) = OutOfLimits (site_words_option at)
site_words_fault (report.BadChoice at) = BadChoice (site_words_option at)
site_words_fault _ = Bound

site_words_fault_of : (kind : WordsKind) (fault : SiteWords) → IsOptionFault kind fault → site_words_fault kind ≡ fault
site_words_fault_of kind Refused says = absurd says
site_words_fault_of kind TooMany says = absurd says
site_words_fault_of kind (BadNumber at) says = ap site_words_fault says ∙ ap BadNumber (site_words_option-own at)
site_words_fault_of kind (OutOfLimits at) says = ap site_words_fault says ∙ ap OutOfLimits (site_words_option-own at)
site_words_fault_of kind (BadChoice at) says = ap site_words_fault says ∙ ap BadChoice (site_words_option-own at)
site_words_fault_of kind Bound says = ap site_words_fault says

-- a fault of options is one fault of words
pub site_words_have_one_option_fault : (kind : WordsKind) (fault other : SiteWords) → IsOptionFault kind fault → IsOptionFault kind other
    → fault ≡ other
site_words_have_one_option_fault kind fault other one two = sym (site_words_fault_of kind fault one) ∙ site_words_fault_of kind other two

-- the fault of a refusal is one
pub site_words_have_one_refusal : {T : Type 0} (fault other : SiteWords)
    → Path (Result T SiteWordsRefusal) (Err (Bad fault)) (Err (Bad other)) → fault ≡ other
site_words_have_one_refusal fault other same = cc

-- all counts of options are the one that was found
pub site_words_have_one_count : (behind front rest : List (List ℕ)) (count : ℕ) → AreOptionsThenNames site_options behind front rest
    → ((options names : List (List ℕ)) → AreOptionsThenNames site_options behind options names
    → Path (Option ℕ) (Some count) (Some (length options)))
    → (options names : List (List ℕ)) → AreOptionsThenNames site_options behind options names → length options ≡ length front
site_words_have_one_count behind front rest count own exact options names parted =
    sym (same_count count (length options) (exact options names parted)) ∙ same_count count (length front) (exact front rest own)
  where
    same_count : (one other : ℕ) → Path (Option ℕ) (Some one) (Some other) → one ≡ other
    same_count one other same = cc

-- settings that were read are those that are asked for
pub site_words_have_one_setting : (all other : Settings)
    → Path (Result Settings WordsRefusal) (Ok all) (Ok other) ⊎ Path (Result Settings WordsRefusal) (Ok all) (Err refused.OutOfMemory)
    → all ≡ other
site_words_have_one_setting all other (inl same) = cc
site_words_have_one_setting all other (inr same) = cc

-- and have no fault
pub site_words_read_lack_fault : (all : Settings) (kind : WordsKind)
    → Path (Result Settings WordsRefusal) (Ok all) (Err (refused.Bad kind)) ⊎ Path (Result Settings WordsRefusal) (Ok all) (Err refused.OutOfMemory)
    → ⊥
site_words_read_lack_fault all kind (inl same) = cc
site_words_read_lack_fault all kind (inr same) = cc

-- options that ask for a report are refused only where memory ran out
pub site_words_asked_lack_memory : (refusal : WordsRefusal) (other : Settings)
    → Path (Result Settings WordsRefusal) (Err refusal) (Ok other) ⊎ Path (Result Settings WordsRefusal) (Err refusal) (Err refused.OutOfMemory)
    → refusal ≡ refused.OutOfMemory
site_words_asked_lack_memory refusal other (inl same) = cc
site_words_asked_lack_memory refusal other (inr same) = cc

pub site_words_out_of_memory : (refusal : WordsRefusal) (result : SiteWordsRefusal) → IsSiteRefusal refusal result
    → refusal ≡ refused.OutOfMemory → result ≡ OutOfMemory
site_words_out_of_memory refused.OutOfMemory OutOfMemory says is = refl
site_words_out_of_memory refused.OutOfMemory (Bad fault) says is = absurd says
site_words_out_of_memory (refused.Bad kind) result says is = cc

-- what a refusal of options says of them
pub site_words_refused_options : (refusal : WordsRefusal) (result : SiteWordsRefusal) (fault : SiteWords) → IsSiteRefusal refusal result
    → result ≡ Bad fault → (kind : WordsKind) × (refusal ≡ refused.Bad kind) × IsOptionFault kind fault
site_words_refused_options (refused.Bad kind) (Bad other) fault says is = (kind, refl, subst (IsOptionFault kind) (same other fault is) says)
  where
    same : (other fault : SiteWords) → Path SiteWordsRefusal (Bad other) (Bad fault) → other ≡ fault
    same other fault is = cc
site_words_refused_options (refused.Bad kind) OutOfMemory fault says is = absurd says
site_words_refused_options refused.OutOfMemory (Bad other) fault says is = absurd says
site_words_refused_options refused.OutOfMemory OutOfMemory fault says is = cc

-- a fault of options that was found is the one that is told
pub site_words_tell_option_fault : (refusal : WordsRefusal) (result : SiteWordsRefusal) (kind : WordsKind) (fault : SiteWords)
    → IsSiteRefusal refusal result → IsOptionFault kind fault
    → Path (Result Settings WordsRefusal) (Err refusal) (Err (refused.Bad kind))
    ⊎ Path (Result Settings WordsRefusal) (Err refusal) (Err refused.OutOfMemory)
    → (result ≡ Bad fault) ⊎ (result ≡ OutOfMemory)
site_words_tell_option_fault refusal result kind fault says is (inr same) =
    inr (site_words_out_of_memory refusal result says (same_refusal same))
  where
    same_refusal : Path (Result Settings WordsRefusal) (Err refusal) (Err refused.OutOfMemory) → refusal ≡ refused.OutOfMemory
    same_refusal same = cc
site_words_tell_option_fault refusal result kind fault says is (inl same) =
    inl (go result (subst (λ r. IsSiteRefusal r result) (same_refusal same) says))
  where
    same_refusal : Path (Result Settings WordsRefusal) (Err refusal) (Err (refused.Bad kind)) → refusal ≡ refused.Bad kind
    same_refusal same = cc

    go : (result : SiteWordsRefusal) → IsSiteRefusal (refused.Bad kind) result → result ≡ Bad fault
    go (Bad other) says = ap Bad (site_words_have_one_option_fault kind other fault says is)
    go OutOfMemory says = absurd says

-- settings of a report within their limits, with 1 to 8 names, can be reported on
pub site_words_can_report : (all : Settings) (names : ℕ) → AreLimited all × HaveWideShare all → 1 ≤ names → names ≤ site_limit
    → CanReport (stored_settings all) all.phi names
site_words_can_report all names limited some few = record {
  some = some;
  few = few;
  settings_allowed = record {
    some = limited.0.some_shards;
    few = limited.0.few_shards;
    least = limited.0.least_capacity;
    most = limited.0.fits;
  };
  least = limited.0.some_phi;
  most = limited.0.most_phi;
  wide = limited.1;
}

-- options of `sites` are options of `report`
pub site_words_are_of_report : All (Contains report_options) site_options
site_words_are_of_report =
    All-from_recursion (Contains report_options) site_options (
      (1, omega arith, refl),
      (
        (2, omega arith, refl),
        (
          (3, omega arith, refl),
          (
            (4, omega arith, refl),
            (
              (5, omega arith, refl),
              ((10, omega arith, refl), tt),
            ),
          ),
        ),
      ),
    )

-- no other option is among them
site_words_lack_text : (name : List ℕ) → bytes_eq (codes "weigh") name ≡ false → bytes_eq (codes "shards") name ≡ false
    → bytes_eq (codes "capacity") name ≡ false → bytes_eq (codes "phi") name ≡ false → bytes_eq (codes "deal") name ≡ false
    → bytes_eq (codes "bits") name ≡ false → Contains site_options name → ⊥
site_words_lack_text name a b c d e f within =
    true≢false (sym ((bytes_eq-Decides name name).1 refl)
    ∙ All-contains (λ text. bytes_eq text name ≡ false) site_options name
    (All-from_recursion (λ text. bytes_eq text name ≡ false) site_options (a, (b, (c, (d, (e, (f, tt))))))) within)

pub site_words_name_own_option : (at : Opt) → IsNamedOption site_options at → (own : SiteOpt) × (opt_of own ≡ at)
site_words_name_own_option opt.Weigh named = (Weigh, refl)
site_words_name_own_option opt.Shards named = (Shards, refl)
site_words_name_own_option opt.Capacity named = (Capacity, refl)
site_words_name_own_option opt.Phi named = (Phi, refl)
site_words_name_own_option opt.Deal named = (Deal, refl)
site_words_name_own_option opt.Bits named = (Bits, refl)
site_words_name_own_option opt.Seed (inl named) = absurd (site_words_lack_text (codes "SEED") refl refl refl refl refl refl named)
site_words_name_own_option opt.Frames (inl named) = absurd (site_words_lack_text (codes "FRAMES") refl refl refl refl refl refl named)
site_words_name_own_option opt.Block (inl named) = absurd (site_words_lack_text (codes "block") refl refl refl refl refl refl named)
site_words_name_own_option opt.Workers (inl named) = absurd (site_words_lack_text (codes "workers") refl refl refl refl refl refl named)
site_words_name_own_option opt.Callers (inl named) = absurd (site_words_lack_text (codes "callers") refl refl refl refl refl refl named)
site_words_name_own_option opt.Rounds (inl named) = absurd (site_words_lack_text (codes "rounds") refl refl refl refl refl refl named)
site_words_name_own_option opt.Front (inl named) = absurd (site_words_lack_text (codes "front") refl refl refl refl refl refl named)
site_words_name_own_option opt.Limit (inl named) = absurd (site_words_lack_text (codes "limit") refl refl refl refl refl refl named)
site_words_name_own_option opt.Seed (inr other) = cc
site_words_name_own_option opt.Frames (inr other) = cc
site_words_name_own_option opt.Block (inr other) = cc
site_words_name_own_option opt.Workers (inr other) = cc
site_words_name_own_option opt.Callers (inr other) = cc
site_words_name_own_option opt.Rounds (inr other) = cc
site_words_name_own_option opt.Front (inr other) = cc
site_words_name_own_option opt.Limit (inr other) = cc

-- what is said of options that are those of `sites`
pub site_words_of_own_options : (options behind front rest : List (List ℕ)) → options ≡ site_options
    → AreOptionsThenNames options behind front rest → AreOptionsThenNames site_options behind front rest
site_words_of_own_options options behind front rest same parted = subst (λ o. AreOptionsThenNames o behind front rest) same parted

pub site_words_counted_by_own_options : (options behind : List (List ℕ)) (count : Option ℕ) → options ≡ site_options
    → ((front names : List (List ℕ)) → AreOptionsThenNames options behind front names → count ≡ Some (length front))
    → (front names : List (List ℕ)) → AreOptionsThenNames site_options behind front names → count ≡ Some (length front)
site_words_counted_by_own_options options behind count same exact front names parted =
    exact front names (subst (λ o. AreOptionsThenNames o behind front names) (sym same) parted)

-- what is said of a refusal is said of the answer that is it
pub site_words_of_refusal : {T : Type 0} (refusal other : SiteWordsRefusal) → Path (Result T SiteWordsRefusal) (Err refusal) (Err other) → refusal ≡ other
site_words_of_refusal refusal other same = cc

pub site_words_refused_as : {T : Type 0} (refusal : SiteWordsRefusal) (fault : SiteWords) → (refusal ≡ Bad fault) ⊎ (refusal ≡ OutOfMemory)
    → Path (Result T SiteWordsRefusal) (Err refusal) (Err (Bad fault)) ⊎ Path (Result T SiteWordsRefusal) (Err refusal) (Err OutOfMemory)
site_words_refused_as refusal fault (inl same) = inl (ap Err same)
site_words_refused_as refusal fault (inr same) = inr (ap Err same)
