-- One more mark is one more on the list, and one less is one less.
use Rattle.std.proofs.Common.{◌≡◌, ◌<◌, ◌≤◌, ◌+◌, ◌⊎◌, ◌==◌, ℕ, zero, suc, Bool, true, false, cond, List, [], ◌∷◌, ◌++◌, length, get_or, set, inl, inr, ⊎_elim, refl, sym, ap, ◌∙◌, subst, arith, count_by, append-nil, append_assoc, length-append, length-set, get_or-set_same, get_or-set_other}
use Rattle.std.proofs.lemmas.Bool.{both_ways, cases_lt, cases_Bool}
use Rattle.std.proofs.lemmas.Bool.Decides.{eqb_tells}
use Rattle.std.proofs.lemmas.List.{length_push, get_or_append_left, get_or_past}
use Rattle.std.proofs.lemmas.List.Sums.{count_by-le-length, sum_by-set, sum_by_push, sum_by-cons}
use Rattle.std.specs.List.{Contains}
use Rattle.ld_graph.specs.Inside.Marking.{IsListed, Marked, MarksMore}
use Rattle.ld_graph.proofs.Listed.{here, there}

abbrev one_if : Bool → ℕ
one_if mark = cond mark 1 0

abbrev times : ℕ → List ℕ → ℕ
times text list = count_by (λ one. one == text) list

-- ---- what is counted is contained

counted : (list : List ℕ) (text : ℕ) → 1 ≤ times text list → Contains list text
counted [] text some = absurd (omega arith)
counted (first ∷ list) text some =
    ⊎_elim
    (λ same. subst (Contains (first ∷ list)) same.1 (here first list))
    (λ other.
    let e = sum_by-cons (λ one. one_if (one == text)) first list in
    let z : one_if (first == text) ≡ 0 = ap one_if other.0 in
    there text first list (counted list text (omega arith)))
    (eqb_tells first text)

counts : (list : List ℕ) (text k : ℕ) → k < length list → get_or list k text ≡ text → 1 ≤ times text list
counts [] text k lt is = absurd (omega arith)
counts (first ∷ list) text zero lt is =
    let e = sum_by-cons (λ one. one_if (one == text)) first list in
    let z : one_if (first == text) ≡ 1 = ⊎_elim (λ same. ap one_if same.0) (λ other. absurd (other.1 is)) (eqb_tells first text) in omega arith
counts (first ∷ list) text (suc k) lt is =
    let e = sum_by-cons (λ one. one_if (one == text)) first list in
    let rest = counts list text k (omega arith) is in omega arith

pub contains_or : (list : List ℕ) (text : ℕ) → Contains list text ⊎ (Contains list text → ⊥)
contains_or list text =
    ⊎_elim
    (λ some. inl (counted list text some))
    (λ none. inr (λ c. let some = counts list text c.0 c.1 c.2 in omega arith))
    (cases_lt 0 (times text list))

pub on : (marks : List Bool) (list : List ℕ) (text : ℕ) → IsListed marks list → (get_or marks text false ≡ true) → Contains list text
on marks list text listed m = counted list text (let e = listed.once text ∙ ap one_if m in omega arith)

pub only : (marks : List Bool) (list : List ℕ) (text : ℕ) → IsListed marks list → Contains list text → (get_or marks text false ≡ true)
only marks list text listed c =
    let some = counts list text c.0 c.1 c.2 in
    ⊎_elim (λ m. m) (λ un. absurd (let e = listed.once text ∙ ap one_if un in omega arith)) (cases_Bool (get_or marks text false))

-- ---- one mark more

count_set : (marks : List Bool) (text : ℕ) (mark : Bool) → text < length marks → count_by (λ one. one) (set marks text mark) + one_if (get_or marks text false) ≡ count_by (λ one. one) marks + one_if mark
count_set marks text mark lt = sum_by-set one_if marks text mark false lt

pub room_for : (marks : List Bool) (text : ℕ) → text < length marks → get_or marks text false ≡ false → suc (count_by (λ mark. mark) marks) ≤ length marks
room_for marks text lt un =
    let e = count_set marks text true lt in
    let z : one_if (get_or marks text false) ≡ 0 = ap one_if un in
    let le = count_by-le-length (λ (mark : Bool). mark) (set marks text true) in
    let n : length (set marks text true) ≡ length marks = length-set marks text true in omega arith

pub listed_set : (marks : List Bool) (list : List ℕ) (text : ℕ) → text < length marks → get_or marks text false ≡ false → IsListed marks list → IsListed (set marks text true) (list ++ text ∷ [])
listed_set marks list text lt un listed = record {
  count =
      let e = count_set marks text true lt in
      let z : one_if (get_or marks text false) ≡ 0 = ap one_if un in
      let n = length_push list text in
      let h = listed.count in omega arith;
  once = λ other.
      let h = listed.once other in
      let n = sum_by_push (λ one. one_if (one == other)) list text in
      ⊎_elim
      (λ same.
      let m : one_if (get_or (set marks text true) other false) ≡ 1 = ap one_if (ap (λ x. get_or (set marks text true) x false) (sym same.1) ∙ get_or-set_same marks text true false lt) in
      let u : one_if (get_or marks other false) ≡ 0 = ap one_if (ap (λ x. get_or marks x false) (sym same.1) ∙ un) in
      let t : one_if (text == other) ≡ 1 = ap one_if same.0 in omega arith)
      (λ differs.
      let m : one_if (get_or (set marks text true) other false) ≡ one_if (get_or marks other false) = ap one_if (get_or-set_other marks text other true false (λ e. differs.1 (sym e))) in
      let t : one_if (text == other) ≡ 0 = ap one_if differs.0 in omega arith)
      (eqb_tells text other);
}

-- ---- one mark less

pub last_marked : (marks : List Bool) (rest : List ℕ) (text : ℕ) → IsListed marks (rest ++ text ∷ []) → get_or marks text false ≡ true
last_marked marks rest text listed =
    let h = listed.once text in
    let n = sum_by_push (λ one. one_if (one == text)) rest text in
    let t : one_if (text == text) ≡ 1 = ⊎_elim (λ same. ap one_if same.0) (λ differs. absurd (differs.1 refl)) (eqb_tells text text) in
    ⊎_elim (λ m. m) (λ un. absurd (let z : one_if (get_or marks text false) ≡ 0 = ap one_if un in omega arith)) (cases_Bool (get_or marks text false))

pub listed_pop : (marks : List Bool) (rest : List ℕ) (text : ℕ) → text < length marks → IsListed marks (rest ++ text ∷ []) → IsListed (set marks text false) rest
listed_pop marks rest text lt listed =
    let marked : one_if (get_or marks text false) ≡ 1 = ap one_if (last_marked marks rest text listed) in
    record {
      count =
          let e = count_set marks text false lt in
          let n = length_push rest text in
          let h = listed.count in omega arith;
      once = λ other.
          let h = listed.once other in
          let n = sum_by_push (λ one. one_if (one == other)) rest text in
          ⊎_elim
          (λ same.
          let m : one_if (get_or (set marks text false) other false) ≡ 0 = ap one_if (ap (λ x. get_or (set marks text false) x false) (sym same.1) ∙ get_or-set_same marks text false false lt) in
          let u : one_if (get_or marks other false) ≡ 1 = ap (λ x. one_if (get_or marks x false)) (sym same.1) ∙ marked in
          let t : one_if (text == other) ≡ 1 = ap one_if same.0 in omega arith)
          (λ differs.
          let m : one_if (get_or (set marks text false) other false) ≡ one_if (get_or marks other false) = ap one_if (get_or-set_other marks text other false false (λ e. differs.1 (sym e))) in
          let t : one_if (text == other) ≡ 0 = ap one_if differs.0 in omega arith)
          (eqb_tells text other);
    }

-- ---- growing

pub more_none : (marked : Marked) → MarksMore marked marked
more_none marked = record { size = refl; kept = λ text h. h; front = ([], sym (append-nil marked.list)) }

pub more_more : (old mid new : Marked) → MarksMore old mid → MarksMore mid new → MarksMore old new
more_more old mid new g h = record {
  size = h.size ∙ g.size;
  kept = λ text m. h.kept text (g.kept text m);
  front = (g.front.0 ++ h.front.0, h.front.1 ∙ ap (λ xs. xs ++ h.front.0) g.front.1 ∙ append_assoc old.list g.front.0 h.front.0);
}

pub marked_below : (marks : List Bool) (text : ℕ) → (get_or marks text false ≡ true) → text < length marks
marked_below marks text m =
    ⊎_elim (λ lt. lt) (λ past. absurd (both_ways (get_or marks text false) (get_or_past marks text false past) m)) (cases_lt text (length marks))

pub front_same : (old new : Marked) → MarksMore old new → (k d : ℕ) → k < length old.list → get_or new.list k d ≡ get_or old.list k d
front_same old new g k d lt = ap (λ xs. get_or xs k d) g.front.1 ∙ get_or_append_left old.list g.front.0 d k lt

pub longer_len : (old new : Marked) → MarksMore old new → length old.list ≤ length new.list
longer_len old new g =
    let e = ap length g.front.1 in
    let n = length-append old.list g.front.0 in omega arith

pub none_marked : (marks : List Bool) (text : ℕ) → IsListed marks [] → (get_or marks text false ≡ true) → ⊥
none_marked marks text listed m = let c = on marks [] text listed m in omega (arith, c.1)

at_push : (xs : List Bool) (k : ℕ) → get_or (xs ++ false ∷ []) k false ≡ get_or xs k false
at_push [] zero = refl
at_push [] (suc k) = refl
at_push (x ∷ xs) zero = refl
at_push (x ∷ xs) (suc k) = at_push xs k

pub listed_push : (marks : List Bool) (list : List ℕ) → IsListed marks list → IsListed (marks ++ false ∷ []) list
listed_push marks list listed = record {
  count = let e = sum_by_push one_if marks false in listed.count ∙ omega arith;
  once = λ text. listed.once text ∙ ap one_if (sym (at_push marks text));
}
