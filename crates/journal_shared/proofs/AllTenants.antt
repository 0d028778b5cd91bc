-- Lines of all tenants that come one after another.
use Rattle.std.proofs.Common.{◌≡◌, ◌<◌, ℕ, suc, List, [], ◌∷◌, ◌++◌, drop, length, refl, ap, sym, subst, ◌∙◌}
use Rattle.std.specs.Prelude.{All}
use Rattle.std.proofs.lemmas.List.{append-nil, append_assoc, map-append}
use Rattle.std.proofs.Math.ListN.{get_or}
use Rattle.std.proofs.Math.Seq.{drop-cons, drop-length}
use Rattle.std.proofs.lemmas.List.Elements.{All-nil, All-push, All-weaker}
use Rattle.tenant_core.specs.declared.opening.Opening.{Opening}
use Rattle.book_log.specs.declared.line.LinePlace.{LinePlace}
use Rattle.one_list.specs.declared.step.Beginning.{Beginning}
use Rattle.journal_shared.specs.Fronts.{AreAppended, AreLines, Front, HasMetMore, IsFront, IsMet, end_of}
use Rattle.journal_shared.specs.Kept.{AreLinesOfAll, ends_of}
use Rattle.journal_shared.proofs.Noting.{met_still}

-- what was appended for the first tenants goes with what is appended for the others
abbrev pub GoesWith : List Opening → List Front → ℕ → List ℕ → List Front → Type 0
GoesWith openings before n text after =
    (others : List ℕ) (later : List Front) → AreLinesOfAll openings (drop n before) others later
    → AreLinesOfAll openings before (text ++ others) (after ++ later)

-- lines of the first tenants were appended, which lead from fronts that were met to others; these have those ends
pub record Goes (openings : List Opening) (before : List Front) (n : ℕ) (text : List ℕ) (ends : List LinePlace) (met : List Beginning) : Type 0 where
  pub after : List Front
  pub are : All (IsFront openings) after
  pub ends_are : ends ≡ ends_of after
  pub met_after : All (IsMet met) after
  pub met_before : All (IsMet met) before
  pub lines : GoesWith openings before n text after

-- nothing was appended yet
pub goes_first : (openings : List Opening) (before : List Front) (met : List Beginning) → All (IsMet met) before
    → Goes openings before 0 [] [] met
goes_first openings before met were = record {
  after = [];
  are = All-nil _;
  ends_are = refl;
  met_after = All-nil _;
  met_before = were;
  lines = λ others later rest. rest;
}

goes_with_more : (openings : List Opening) (before : List Front) (n : ℕ) (d : Front) (text own : List ℕ) (after : List Front)
    (last : Front) → n < length before → AreLines openings (get_or before n d) own last → GoesWith openings before n text after
    → GoesWith openings before (suc n) (text ++ own) (after ++ last ∷ [])
goes_with_more openings before n d text own after last within lines so_far others later rest =
    let next : AreLinesOfAll openings (get_or before n d ∷ drop (suc n) before) (own ++ others) (last ∷ later)
    = (own, last, others, later, lines, rest, refl, refl) in
    let joined : AreLinesOfAll openings before (text ++ (own ++ others)) (after ++ last ∷ later)
    = so_far (own ++ others) (last ∷ later)
    (subst (λ (fs : List Front). AreLinesOfAll openings fs (own ++ others) (last ∷ later)) (sym (drop-cons before n d within)) next) in
    subst (λ (fs : List Front). AreLinesOfAll openings before ((text ++ own) ++ others) fs) (sym (append_assoc after (last ∷ []) later))
    (subst (λ (t : List ℕ). AreLinesOfAll openings before t (after ++ last ∷ later)) (sym (append_assoc text own others)) joined)

still_met : (met now : List Beginning) (fronts : List Front) → HasMetMore met now → All (IsMet met) fronts → All (IsMet now) fronts
still_met met now fronts more were =
    All-weaker (IsMet met) (IsMet now) (λ (f : Front) is. subst (λ (bs : List Beginning). IsMet bs f) (sym more.1) (met_still met more.0 f is)) fronts were

-- the lines of one tenant more were appended
pub goes_next : (openings : List Opening) (before : List Front) (n next : ℕ) (d : Front) (text now : List ℕ) (ends later : List LinePlace)
    (end : LinePlace) (met met_now : List Beginning) → n < length before → next ≡ suc n → later ≡ ends ++ end ∷ []
    → Goes openings before n text ends met → AreAppended openings (get_or before n d) text now end met_now → HasMetMore met met_now
    → Goes openings before next now later met_now
goes_next openings before n next d text now ends later end met met_now within next_is later_is so_far more met_more = record {
  after = so_far.after ++ more.last ∷ [];
  are = All-push (IsFront openings) so_far.after more.last so_far.are more.lines.after_is;
  ends_are = later_is ∙ (ap (λ (ps : List LinePlace). ps ++ end ∷ []) so_far.ends_are
      ∙ (ap (λ (p : LinePlace). ends_of so_far.after ++ p ∷ []) more.to_is ∙ sym (map-append end_of so_far.after (more.last ∷ []))));
  met_after = All-push (IsMet met_now) so_far.after more.last (still_met met met_now so_far.after met_more so_far.met_after) more.met_is;
  met_before = still_met met met_now before met_more so_far.met_before;
  lines = subst (λ (k : ℕ). GoesWith openings before k now (so_far.after ++ more.last ∷ [])) (sym next_is)
      (subst (λ (t : List ℕ). GoesWith openings before (suc n) t (so_far.after ++ more.last ∷ [])) (sym more.after_is)
      (goes_with_more openings before n d text more.own so_far.after more.last within more.lines so_far.lines));
}

-- those of all tenants were
pub goes_all : (openings : List Opening) (before : List Front) (n : ℕ) (text : List ℕ) (ends : List LinePlace) (met : List Beginning)
    → n ≡ length before → (so_far : Goes openings before n text ends met) → AreLinesOfAll openings before text so_far.after
goes_all openings before n text ends met all so_far =
    subst (λ (fs : List Front). AreLinesOfAll openings before text fs) (append-nil so_far.after)
    (subst (λ (t : List ℕ). AreLinesOfAll openings before t (so_far.after ++ [])) (append-nil text)
    (so_far.lines [] [] (subst (λ (fs : List Front). AreLinesOfAll openings fs [] []) (sym (ap (λ (k : ℕ). drop k before) all ∙ drop-length before)) (refl, refl))))
