-- What the saves of a session leave of its store, and the last reports of runs that went on.
use Rattle.std.proofs.Common.{◌≡◌, ◌∙◌, ◌+◌, inl, inr, ℕ, true, List, [], ◌∷◌, ◌++◌, Option, Some}
use Rattle.std.proofs.Common.{refl, sym, ap, subst, arith, length, map, All}
use Rattle.std.specs.Prelude.{IsSomeAnd}
use Rattle.std.proofs.lemmas.List.{length-append, length-map, map-append}
use Rattle.std.proofs.lemmas.List.Elements.{All-head, All-map, All-tail}
use Rattle.prefix_lattice.specs.{RecordValue}
use Rattle.shard_state.specs.{AreCoreShards, BasesRepresent, CutRepresents, CutValue, ShardValue, core_shape}
use Rattle.shard_state.specs.{core_lists, cut_positions}
use Rattle.hhh_report.specs.{AreReportLines, IsSameReport}
use Rattle.hhh_output.specs.{IsReportOf}
use Rattle.hhh_report.specs.declared.report.Report.{Report}
use Rattle.hhh_report.specs.declared.reports.Reported.{Reported}
use Rattle.gate_workers.specs.{IsCoreReport, cut_at}
use Rattle.checkpoint.specs.{StoreBelongs, IsStoreOf, SavedValue, lists_digest, store_sequence}
use Rattle.checkpoint.specs.declared.header.StoreHeader.{StoreHeader}
use Rattle.command_words.specs.declared.settings.Settings.{Settings}
use Rattle.report_text.specs.{report_text}
use Rattle.report_session.specs.Saving.{OpensToSaves, last_of_saves, saves_after}
use Rattle.report_session.specs.Session.{AreReports, IsShownInSession, SessionReports, calling_reports, session_ends}
use Rattle.report_session.specs.Session.{saved_cuts, saves_of}
use Rattle.report_session.proofs.LastReportLemmas.{LastReportTextIsUnique, last_report_is_among_all}
use Rattle.report_session.proofs.SeenPositionLemmas.{seen_positions_of_cut}

-- the cut of a report of the pure core represents the lists, if the bases do
abbrev pub SavedStoreCutsRepresent : Type 0
SavedStoreCutsRepresent = (opening : List ShardValue) (phi : ℕ) (report : Report) → AreCoreShards opening → IsCoreReport opening phi report
    → BasesRepresent opening → CutRepresents (cut_at opening report.positions) (core_lists opening)

-- cuts that represent the same lists have one report
abbrev pub SavedStoreReportIsUnique : Type 0
SavedStoreReportIsUnique = (cut other_cut : CutValue) (lists : List (List RecordValue)) (phi : ℕ) (report other : Report)
    → cut.shape ≡ other_cut.shape → cut_positions cut ≡ cut_positions other_cut → CutRepresents cut lists
    → CutRepresents other_cut lists → AreReportLines report.lines → AreReportLines other.lines → IsReportOf cut phi report
    → IsReportOf other_cut phi other → IsSameReport report other

saved_store_ends_by_lists : (opening : List ShardValue) → session_ends opening ≡ map (λ (list : List RecordValue). length list) (core_lists opening)
saved_store_ends_by_lists [] = refl
saved_store_ends_by_lists (shard ∷ rest) = ap (λ ends. length shard.list ∷ ends) (saved_store_ends_by_lists rest)

-- the last reports of two runs over the same lists
pub saved_store_sessions_end_alike : SavedStoreReportIsUnique → SavedStoreCutsRepresent → LastReportTextIsUnique → (opening other_opening : List ShardValue)
    (settings other : Settings) (reports others : SessionReports) → AreCoreShards opening → AreCoreShards other_opening
    → BasesRepresent opening → BasesRepresent other_opening → core_lists opening ≡ core_lists other_opening
    → core_shape opening ≡ core_shape other_opening → settings.phi ≡ other.phi
    → AreReports opening settings reports → AreReports other_opening other others
    → report_text reports.last.report ≡ report_text others.last.report
saved_store_sessions_end_alike one represent text opening other_opening settings other reports others shards other_shards bases other_bases
    lists capacity phi are are_other =
    let first : IsShownInSession opening settings reports.last =
    last_report_is_among_all (IsShownInSession opening settings) reports.rounds reports.last are.calling.shown in
    let second : IsShownInSession other_opening other others.last =
    last_report_is_among_all (IsShownInSession other_opening other) others.rounds others.last are_other.calling.shown in
    let report : Report = reports.last.report in
    let last : Report = others.last.report in
    let positions : cut_positions (cut_at opening report.positions) ≡ cut_positions (cut_at other_opening last.positions) =
    seen_positions_of_cut opening report.positions first.is_report.as_many ∙ are.at_ends ∙ saved_store_ends_by_lists opening
    ∙ ap (map (λ (list : List RecordValue). length list)) lists ∙ sym (saved_store_ends_by_lists other_opening)
    ∙ sym are_other.at_ends ∙ sym (seen_positions_of_cut other_opening last.positions second.is_report.as_many) in
    text report last
    (one (cut_at opening report.positions) (cut_at other_opening last.positions) (core_lists opening) settings.phi report last
    capacity positions (represent opening settings.phi report shards first.is_report bases)
    (subst (CutRepresents (cut_at other_opening last.positions)) (sym lists)
    (represent other_opening other.phi last other_shards second.is_report other_bases))
    report.are_lines last.are_lines first.is_report.is
    (subst (λ n. IsReportOf (cut_at other_opening last.positions) n last) (sym phi) second.is_report.is))

-- what is saved of these reports is of the lists
pub saved_store_belongs : (header : StoreHeader) (lists : List (List RecordValue)) (opened : Option SavedValue)
    (sequence : ℕ) (cuts : List CutValue) (image : List ℕ) → IsStoreOf header lists opened
    → All (λ cut. CutRepresents cut lists) cuts
    → OpensToSaves header opened (saves_after sequence (lists_digest header lists) cuts) image
    → StoreBelongs header lists image
saved_store_belongs header lists opened sequence [] image of_lists all opens = (opened, opens, of_lists)
saved_store_belongs header lists opened sequence (cut ∷ cuts) image of_lists all (inl opens) = (opened, opens, of_lists)
saved_store_belongs header lists opened sequence (cut ∷ cuts) image of_lists all (inr among) =
    saved_store_belongs header lists
    (Some (record { sequence = sequence + 1; digest = lists_digest header lists; cut = cut })) (sequence + 1) cuts image
    (refl, All-head (λ c. CutRepresents c lists) cut cuts all) (All-tail (λ c. CutRepresents c lists) cut cuts all) among

pub saved_store_cuts_represent : SavedStoreCutsRepresent → (opening : List ShardValue) (settings : Settings) (reports : List Reported)
    → AreCoreShards opening → BasesRepresent opening → All (IsShownInSession opening settings) reports
    → All (λ cut. CutRepresents cut (core_lists opening)) (saved_cuts true opening reports)
saved_store_cuts_represent represent opening settings reports shards bases shown =
    All-map (λ cut. CutRepresents cut (core_lists opening)) (λ (r : Reported). cut_at opening r.report.positions) reports
    (λ k d lt. represent opening settings.phi _ shards (shown k d lt).is_report bases)

pub saved_store_of_session_belongs : SavedStoreCutsRepresent → (header : StoreHeader) (opening : List ShardValue) (settings : Settings)
    (reports : List Reported) (opened : Option SavedValue) (image : List ℕ) → AreCoreShards opening → BasesRepresent opening
    → All (IsShownInSession opening settings) reports → IsStoreOf header (core_lists opening) opened
    → OpensToSaves header opened (saves_of header opening opened reports) image
    → StoreBelongs header (core_lists opening) image
saved_store_of_session_belongs represent header opening settings reports opened image shards bases shown of_lists among =
    saved_store_belongs header (core_lists opening) opened (store_sequence opened)
    (saved_cuts true opening reports) image of_lists
    (saved_store_cuts_represent represent opening settings reports shards bases shown) among

-- the last of some saves
saved_store_holds_newest : (opened : Option SavedValue) (sequence : ℕ) (digest : List ℕ) (cuts : List CutValue) (cut : CutValue)
    → last_of_saves opened (saves_after sequence digest (cuts ++ cut ∷ []))
    ≡ Some (record { sequence = sequence + (length cuts + 1); digest = digest; cut = cut })
saved_store_holds_newest opened sequence digest [] cut = refl
saved_store_holds_newest opened sequence digest (first ∷ cuts) cut =
    saved_store_holds_newest (Some (record { sequence = sequence + 1; digest = digest; cut = first })) (sequence + 1) digest cuts cut
    ∙ ap (λ n. Some (record { sequence = n; digest = digest; cut = cut })) (omega arith)

pub saved_store_stands_at_ends : (header : StoreHeader) (opening : List ShardValue) (settings : Settings) (reports : SessionReports)
    (opened : Option SavedValue) → AreReports opening settings reports
    → IsSomeAnd (last_of_saves opened (saves_of header opening opened (calling_reports reports))) (λ saved.
    (cut_positions saved.cut ≡ session_ends opening) × (saved.sequence ≡ store_sequence opened + (settings.rounds + 1)))
saved_store_stands_at_ends header opening settings reports opened are =
    let f : Reported → CutValue = λ reported. cut_at opening reported.report.positions in
    let digest : List ℕ = lists_digest header (core_lists opening) in
    let first : IsShownInSession opening settings reports.last =
    last_report_is_among_all (IsShownInSession opening settings) reports.rounds reports.last are.calling.shown in
    let parted : saved_cuts true opening (calling_reports reports) ≡ map f reports.rounds ++ f reports.last ∷ [] =
    map-append f reports.rounds (reports.last ∷ []) in
    let many : length (map f reports.rounds) ≡ length reports.rounds = length-map reports.rounds f in
    let all : length (calling_reports reports) ≡ settings.rounds + 1 = are.calling.as_many in
    let last_one : length (calling_reports reports) ≡ length reports.rounds + 1 =
    length-append reports.rounds (reports.last ∷ []) in
    subst (λ held. IsSomeAnd held (λ (saved : SavedValue). (cut_positions saved.cut ≡ session_ends opening)
    × (saved.sequence ≡ store_sequence opened + (settings.rounds + 1))))
    (sym (ap (λ cuts. last_of_saves opened (saves_after (store_sequence opened) digest cuts)) parted
    ∙ saved_store_holds_newest opened (store_sequence opened) digest (map f reports.rounds) (f reports.last))) (
      seen_positions_of_cut opening reports.last.report.positions first.is_report.as_many ∙ are.at_ends,
      omega (arith, many, all, last_one),
    )
