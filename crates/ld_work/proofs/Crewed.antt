-- What the workers of a round leave, and rounds of some of them.
use Rattle.std.proofs.Common.{◌≡◌, ◌≤◌, ◌<◌, ◌+◌, ℕ, zero, suc, List, [], ◌∷◌, ◌++◌, length, get_or, map, take, drop, Result, Ok, Err, refl, ap, sym, ◌∙◌, subst, arith}
use Rattle.std.specs.Prelude.{OnOk}
use Rattle.std.proofs.lemmas.List.{take-append-drop}
use Rattle.std.proofs.lemmas.List.Sums.{sum_by-append, sum_by-cons}
use Rattle.ld_names.specs.Standing.{Known}
use Rattle.ld_texts.specs.Learning.{Texts}
use Rattle.ld_cache.specs.Kept.{Cached}
use Rattle.ld_graph.specs.Reading.{Reading}
use Rattle.ld_graph.specs.Seen.{Graph}
use Rattle.ld_work.specs.Filling.{reads_all}
use Rattle.ld_work.specs.Inside.Lent.{basis_at, CanFill}
use Rattle.ld_work.specs.Inside.Rounds.{AreAnswers, IsAnswer, IsDone, known_at, readers_of, room_of}
use Rattle.ld_work.specs.Readers.{AreOver, KeepTexts, known_by, reads_together}
use Rattle.ld_work.specs.Reads.{reads}
use Rattle.ld_work.specs.declared.bounds.Bounds.{Bounds}
use Rattle.ld_work.specs.declared.desk.Desk.{Desk}
use Rattle.ld_work.specs.declared.lent.Lent.{Lent}

pub on-ok : {A E : Type 0} {P Q : Type 0} (result : Result A E) → (P → Q) → OnOk result P → OnOk result Q
on-ok (Ok value) from holds = from holds
on-ok (Err error) from holds = tt

-- ---- What each worker leaves, for all of them.

pub each-map : {X Y : Type 0} (f : X → Y) (olds news : List X) → length news ≡ length olds → ((i : ℕ) (d : X) → i < length olds → f (get_or news i d) ≡ f (get_or olds i d)) → map f news ≡ map f olds
each-map f [] [] long each = refl
each-map f [] (y ∷ news) long each = absurd (omega arith)
each-map f (x ∷ olds) [] long each = absurd (omega arith)
each-map f (x ∷ olds) (y ∷ news) long each =
    ap (λ first. first ∷ map f news) (each zero x (omega arith)) ∙ ap (λ rest. f x ∷ rest) (each-map f olds news (omega arith) (λ i d within. each (suc i) d (omega arith)))

map-map : {X Y Z : Type 0} (f : X → Y) (g : Y → Z) (xs : List X) → map g (map f xs) ≡ map (λ x. g (f x)) xs
map-map f g [] = refl
map-map f g (x ∷ xs) = ap (λ rest. g (f x) ∷ rest) (map-map f g xs)

-- all may work where those who know this may
pub may-all : (known : Known) (graph : Graph) (bounds : Bounds) (cache : Cached) (desks : List Desk) → CanFill known graph bounds cache → AreOver known (readers_of desks) → (k : ℕ) (d : Desk) → k < length desks → CanFill (get_or desks k d).reader.texts.known graph bounds cache
may-all known graph bounds cache [] can over k d within = absurd (omega arith)
may-all known graph bounds cache (desk ∷ desks) can over zero d within = subst (λ k. CanFill k graph bounds cache) (sym (over zero desk.reader (omega arith))) can
may-all known graph bounds cache (desk ∷ desks) can over (suc k) d within = may-all known graph bounds cache desks can (λ j e below. over (suc j) e (omega arith)) k d (omega arith)

module _ (lent : Lent) where
  abbrev AreDone : List Desk → List Desk → Type 0
  AreDone olds news = (i : ℕ) (d : Desk) → i < length olds → IsDone lent (get_or olds i d) (get_or news i d)

  pub done-texts : (olds news : List Desk) → length news ≡ length olds → AreDone olds news → map (λ desk. desk.text) news ≡ map (λ desk. desk.text) olds
  done-texts olds news long done = each-map (λ desk. desk.text) olds news long (λ i d within. (done i d within).text)

  pub done-keep : (olds news : List Desk) → length news ≡ length olds → AreDone olds news → KeepTexts (readers_of olds) (readers_of news)
  done-keep olds news long done =
      map-map (λ (desk : Desk). desk.reader) (λ reader. reader.texts) news
      ∙ each-map (λ desk. desk.reader.texts) olds news long (λ i d within. (done i d within).texts)
      ∙ sym (map-map (λ (desk : Desk). desk.reader) (λ reader. reader.texts) olds)

  module _ (known : Known) where
    -- each reads what is known
    abbrev AllOver : List Desk → Type 0
    AllOver desks = AreOver known (readers_of desks)

    pub done-answers : (olds news : List Desk) → length news ≡ length olds → AreDone olds news → AllOver olds → AreAnswers (basis_at known lent.bounds lent.cache.now) (room_of lent.cache.now) (map (λ desk. desk.text) olds) (map (λ desk. desk.answer) news)
    done-answers [] [] long done over = tt
    done-answers [] (new ∷ news) long done over = absurd (omega arith)
    done-answers (old ∷ olds) [] long done over = absurd (omega arith)
    done-answers (old ∷ olds) (new ∷ news) long done over = (
      subst (λ k. IsAnswer (basis_at k lent.bounds lent.cache.now) (room_of lent.cache.now) old.text new.answer) (over zero old.reader (omega arith)) (done zero old (omega arith)).answer,
      done-answers olds news (omega arith) (λ i d within. done (suc i) d (omega arith)) (λ j e below. over (suc j) e (omega arith)),
    )

    pub done-reads : (olds news : List Desk) → length news ≡ length olds → AreDone olds news → AllOver olds → reads_together (readers_of news) ≤ reads_together (readers_of olds) + reads_all (basis_at known lent.bounds lent.cache.now) (map (λ desk. desk.text) olds)
    done-reads [] [] long done over = omega arith
    done-reads [] (new ∷ news) long done over = absurd (omega arith)
    done-reads (old ∷ olds) [] long done over = absurd (omega arith)
    done-reads (old ∷ olds) (new ∷ news) long done over =
        let first : new.reader.reads ≤ old.reader.reads + reads (basis_at known lent.bounds lent.cache.now) [] old.text = subst (λ k. new.reader.reads ≤ old.reader.reads + reads (basis_at k lent.bounds lent.cache.now) [] old.text) (over zero old.reader (omega arith)) (done zero old (omega arith)).reads in
        let rest = done-reads olds news (omega arith) (λ i d within. done (suc i) d (omega arith)) (λ j e below. over (suc j) e (omega arith)) in
        omega (arith, sum_by-cons (λ (reader : Reading). reader.reads) new.reader (readers_of news), sum_by-cons (λ (reader : Reading). reader.reads) old.reader (readers_of olds))

-- ---- Readers over the same texts.

first-same : {Y : Type 0} (x y : Y) (xs ys : List Y) → x ∷ xs ≡ y ∷ ys → x ≡ y
first-same x y xs ys same = cc

rest-same : {Y : Type 0} (x y : Y) (xs ys : List Y) → x ∷ xs ≡ y ∷ ys → xs ≡ ys
rest-same x y xs ys same = cc

pub known-kept : (old new : List Reading) → KeepTexts old new → known_by new ≡ known_by old
known-kept [] [] keep = refl
known-kept [] (reader ∷ new) keep = cc
known-kept (reader ∷ old) [] keep = cc
known-kept (reader ∷ old) (other ∷ new) keep =
    ap (λ (texts : Texts). texts.known) (first-same other.texts reader.texts (map (λ r. r.texts) new) (map (λ r. r.texts) old) keep)

pub over-kept : (known : Known) (old new : List Reading) → KeepTexts old new → AreOver known old → AreOver known new
over-kept known [] [] keep over k d within = absurd (omega arith)
over-kept known [] (reader ∷ new) keep over k d within = cc
over-kept known (reader ∷ old) [] keep over k d within = absurd (omega arith)
over-kept known (reader ∷ old) (other ∷ new) keep over zero d within =
    ap (λ (texts : Texts). texts.known) (first-same other.texts reader.texts (map (λ r. r.texts) new) (map (λ r. r.texts) old) keep) ∙ over zero reader (omega arith)
over-kept known (reader ∷ old) (other ∷ new) keep over (suc k) d within =
    over-kept known old new (rest-same other.texts reader.texts (map (λ r. r.texts) new) (map (λ r. r.texts) old) keep) (λ j e below. over (suc j) e (omega arith)) k d (omega arith)

-- ---- Some of the workers.

pub known-front : (desks : List Desk) (n : ℕ) → 0 < n → known_at (take n desks) ≡ known_at desks
known-front [] zero some = absurd (omega arith)
known-front [] (suc n) some = refl
known-front (desk ∷ desks) zero some = absurd (omega arith)
known-front (desk ∷ desks) (suc n) some = refl

pub over-front : (known : Known) (desks : List Desk) (n : ℕ) → AreOver known (readers_of desks) → AreOver known (readers_of (take n desks))
over-front known [] zero over k d within = absurd (omega arith)
over-front known [] (suc n) over k d within = absurd (omega arith)
over-front known (desk ∷ desks) zero over k d within = absurd (omega arith)
over-front known (desk ∷ desks) (suc n) over zero d within = over zero desk.reader (omega arith)
over-front known (desk ∷ desks) (suc n) over (suc k) d within = over-front known desks n (λ j e below. over (suc j) e (omega arith)) k d (omega arith)

pub keep-part : (desks new : List Desk) (n : ℕ) → KeepTexts (readers_of (take n desks)) (readers_of new) → KeepTexts (readers_of desks) (readers_of (new ++ drop n desks))
keep-part [] [] zero keep = refl
keep-part [] [] (suc n) keep = refl
keep-part [] (desk ∷ new) zero keep = cc
keep-part [] (desk ∷ new) (suc n) keep = cc
keep-part (desk ∷ desks) [] zero keep = refl
keep-part (desk ∷ desks) (other ∷ new) zero keep = cc
keep-part (desk ∷ desks) [] (suc n) keep = cc
keep-part (desk ∷ desks) (other ∷ new) (suc n) keep =
    ap (λ t. t ∷ map (λ r. r.texts) (readers_of (new ++ drop n desks))) (first-same other.reader.texts desk.reader.texts (map (λ r. r.texts) (readers_of new)) (map (λ r. r.texts) (readers_of (take n desks))) keep)
    ∙ ap (λ ts. desk.reader.texts ∷ ts) (keep-part desks new n (rest-same other.reader.texts desk.reader.texts (map (λ r. r.texts) (readers_of new)) (map (λ r. r.texts) (readers_of (take n desks))) keep))

readers-append : (front more : List Desk) → readers_of (front ++ more) ≡ readers_of front ++ readers_of more
readers-append [] more = refl
readers-append (desk ∷ front) more = ap (λ rest. desk.reader ∷ rest) (readers-append front more)

pub reads-part : (desks new : List Desk) (n lines : ℕ) → reads_together (readers_of new) ≤ reads_together (readers_of (take n desks)) + lines → reads_together (readers_of (new ++ drop n desks)) ≤ reads_together (readers_of desks) + lines
reads-part desks new n lines few =
    let all : reads_together (readers_of desks) ≡ reads_together (readers_of (take n desks)) + reads_together (readers_of (drop n desks)) = ap (λ ds. reads_together (readers_of ds)) (sym (take-append-drop n desks)) ∙ ap reads_together (readers-append (take n desks) (drop n desks)) ∙ sum_by-append (λ (reader : Reading). reader.reads) (readers_of (take n desks)) (readers_of (drop n desks)) in
    let behind : reads_together (readers_of (new ++ drop n desks)) ≡ reads_together (readers_of new) + reads_together (readers_of (drop n desks)) = ap reads_together (readers-append new (drop n desks)) ∙ sum_by-append (λ (reader : Reading). reader.reads) (readers_of new) (readers_of (drop n desks)) in
    omega arith
