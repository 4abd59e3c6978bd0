-- Bodies that begin the same bytes are the same, and spell the same.
use Rattle.std.proofs.Common.{◌≡◌, ℕ, ◌+◌, ◌^◌, ◌<◌, List, [], ◌++◌, length, refl, sym, ap, ◌∙◌}
use Rattle.std.proofs.Common.{append_assoc, arith}
use Rattle.shard_state.specs.{CutValue, SnapshotValue, TableShape}
use Rattle.checkpoint.specs.declared.settings.StoreSettings.{StoreSettings}
use Rattle.checkpoint.specs.Numbers.{number_bytes}
use Rattle.checkpoint.specs.Header.{AreSettings, settings_shape}
use Rattle.checkpoint.specs.Saved.{SavedValue}
use Rattle.checkpoint.specs.Body.{IsBody, content_bytes, snapshot_bytes}
use Rattle.checkpoint.specs.Body.{AreApart, SpellOneThing}
use Rattle.checkpoint.specs.Decoding.{SnapshotFits}
use Rattle.checkpoint.proofs.BodyPartLemmas.{body_parts_fit_span, body_parts_are_long, body_has_head_parts}
use Rattle.checkpoint.proofs.BodyPartLemmas.{body_has_front_part, body_part_spells_shards}
use Rattle.checkpoint.proofs.PrefixFreeLemmas.{snapshots_are_prefix_free}
use Rattle.checkpoint.proofs.ReadListLemmas.{read_list_is_same}
use Rattle.checkpoint.proofs.SettingsLemmas.{settings_capacity_is_small, settings_span_is_small}
use Rattle.checkpoint.proofs.SpellingLemmas.{spellings_in_bytes_are_apart, spelling_front_is_same}

-- a body's length is a small number
pub one_body_is_short : (settings : StoreSettings) (saved : SavedValue) (body : List ℕ) → AreSettings settings
    → IsBody settings.shards (settings_shape settings) saved body → length body < 2 ^ 32
one_body_is_short settings saved body are is =
    omega (arith, body_parts_fit_span settings.shards (settings_shape settings) saved body is, settings_span_is_small settings are)

pub one_body_in_same_bytes : AreApart
one_body_in_same_bytes settings others saved other body second rest after are are_others is is_second same =
    let long = body_parts_are_long settings.shards (settings_shape settings) saved body is in
    let long_second = body_parts_are_long others.shards (settings_shape others) other second is_second in
    let short = one_body_is_short settings saved body are is in
    let short_second = one_body_is_short others other second are_others is_second in
    let count = 8 + length (content_bytes saved) in
    let count_second = 8 + length (content_bytes other) in
    let grouped : number_bytes 8 count ++ (content_bytes saved ++ rest) ≡ number_bytes 8 count_second ++ (content_bytes other ++ after) =
    sym (append_assoc (number_bytes 8 count) (content_bytes saved) rest)
    ∙ ap (λ (l : List ℕ). l ++ rest) (sym is.spelled) ∙ same ∙ ap (λ (l : List ℕ). l ++ after) is_second.spelled
    ∙ append_assoc (number_bytes 8 count_second) (content_bytes other) after in
    let counts = spellings_in_bytes_are_apart 8 count count_second _ _ (omega (arith, long.1, short)) (omega (arith, long_second.1, short_second)) grouped in
    (spelling_front_is_same body second rest after (long.1 ∙ counts.0 ∙ sym long_second.1) same).0

-- what is saved is given by its parts
one_body_saved_is_same : (saved other : SavedValue) → saved.sequence ≡ other.sequence → saved.digest ≡ other.digest
    → saved.cut.shape ≡ other.cut.shape → saved.cut.shards ≡ other.cut.shards → saved ≡ other
one_body_saved_is_same saved other sequence digest shape shards =
    let with_cut : CutValue → SavedValue = λ cut. record { sequence = other.sequence; digest = other.digest; cut = cut } in
    ap (λ (n : ℕ). record { sequence = n; digest = saved.digest; cut = saved.cut }) sequence
    ∙ ap (λ (l : List ℕ). record { sequence = other.sequence; digest = l; cut = saved.cut }) digest
    ∙ ap (λ (s : TableShape). with_cut (record { shape = s; shards = saved.cut.shards })) shape
    ∙ ap (λ (l : List SnapshotValue). with_cut (record { shape = other.cut.shape; shards = l })) shards

pub one_body_spells_one_value : SpellOneThing
one_body_spells_one_value settings saved other body are is is_other =
    let shards = settings.shards in
    let shape = settings_shape settings in
    let most = settings_capacity_is_small settings.grain settings.capacity are.most in
    let long = body_parts_are_long shards shape saved body is in
    let short = one_body_is_short settings saved body are is in
    let front = body_has_front_part shards shape other body (content_bytes saved) (8 + length (content_bytes saved))
    (omega (arith, short)) (omega (arith, long.1, short)) is.spelled is_other in
    let head = body_has_head_parts shards shape other (content_bytes saved) _ _ saved.digest saved.sequence
    (omega (arith, is.is_saved.early)) is_other.is_saved front.after_is refl is.is_saved.digest refl in
    let same = read_list_is_same snapshot_bytes (SnapshotFits shape) (snapshots_are_prefix_free shape most) _ [] [] shards
    saved.cut.shards other.cut.shards (body_part_spells_shards shards shape saved is.is_saved) head.shards_begin in
    one_body_saved_is_same saved other head.sequence_is head.digest_is (is.is_saved.alike ∙ sym is_other.is_saved.alike) same.0
