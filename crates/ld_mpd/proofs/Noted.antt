-- One more kind and name was seen.
use Rattle.std.proofs.Common.{◌≡◌, ◌&&◌, ◌||◌, ℕ, Bool, true, false, not, cond, List, bytes_eq, refl, ap, ◌∙◌}
use Rattle.std.specs.BTreeSet.{BTreeSet, Updates, contains}
use Rattle.std.specs.Cmp.Lexicographic.{slice_cmp}
use Rattle.std.specs.Ordering.{nat_cmp}
use Rattle.std.proofs.lemmas.Cmp.{nat_list_eq_equiv}
use Rattle.std.proofs.lemmas.Map.Text.{is_eq-slice_cmp}
use Rattle.ld_mpd.specs.declared.seen.Seen.{Seen}
use Rattle.ld_mpd.specs.Blocks.{same_kind}
use Rattle.ld_mpd.specs.Seen.{has_seen, names_of}

or_is : (b c : Bool) → cond b true c ≡ (b || c)
or_is true c = refl
or_is false c = refl

inserted : (old new : BTreeSet (List ℕ)) (name : List ℕ) → Updates (slice_cmp nat_cmp) old new name true → (text : List ℕ) → contains (slice_cmp nat_cmp) new text ≡ (bytes_eq text name || contains (slice_cmp nat_cmp) old text)
inserted old new name updates text =
    updates.0 text ∙ ap (λ b. cond b true (contains (slice_cmp nat_cmp) old text)) (is_eq-slice_cmp name text ∙ nat_list_eq_equiv.symm name text) ∙ or_is (bytes_eq text name) (contains (slice_cmp nat_cmp) old text)

pub noted : (old new : Seen) (is_data : Bool) (name : List ℕ) → Updates (slice_cmp nat_cmp) (names_of old is_data) (names_of new is_data) name true → names_of new (not is_data) ≡ names_of old (not is_data) → (other : Bool) (text : List ℕ) → has_seen new other text ≡ (same_kind other is_data && bytes_eq text name || has_seen old other text)
noted old new true name updates same true text = inserted old.data new.data name updates text
noted old new true name updates same false text = ap (λ names. contains (slice_cmp nat_cmp) names text) same
noted old new false name updates same true text = ap (λ names. contains (slice_cmp nat_cmp) names text) same
noted old new false name updates same false text = inserted old.texts new.texts name updates text
