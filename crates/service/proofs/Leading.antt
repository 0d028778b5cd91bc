-- Questions that follow one another, on a connection and on many.
use Rattle.std.proofs.Common.{ℕ, ◌++◌, ◌∷◌, [], List, Option, subst, sym, refl, append-nil}
use Rattle.std.proofs.lemmas.Grind.{flat_map-append}
use Rattle.std.proofs.lemmas.List.Elements.{All-nil, All-append, All-cons}
use Rattle.one_list.specs.declared.run.Run.{Ghosts}
use Rattle.http_link.specs.Serving.{Asked}
use Rattle.service.specs.Answering.{HasAnsweredAll, HasHeard, HasServed, IsAsked}
use Rattle.service.specs.declared.worker.desk.Desk.{Desk}
use Rattle.service.specs.declared.office.Office.{Office}

pub left_then : {J : Type 0} {r : Ghosts J} (Gives : ℕ → Type 0) (office : Office J r) (a b c : Desk J r) (earlier later : List Asked) → HasAnsweredAll Gives office a earlier b
    → HasAnsweredAll Gives office b later c → HasAnsweredAll Gives office a (later ++ earlier) c
left_then Gives office a b c earlier [] ab bc = subst (λ desk. HasAnsweredAll Gives office a earlier desk) (sym bc) ab
left_then Gives office a b c earlier (asked ∷ later) ab bc =
    (bc.0, left_then Gives office a b bc.0 earlier later ab bc.1, bc.2)

pub served_then : {J : Type 0} {r : Ghosts J} (Gives : ℕ → Type 0) (office : Office J r) (a b c : Desk J r) → HasServed Gives office a b → HasServed Gives office b c → HasServed Gives office a c
served_then Gives office a b c ab bc = record {
  connections = bc.connections ++ ab.connections;
  asked = All-append (IsAsked office) bc.connections ab.connections bc.asked ab.asked;
  left = subst (λ questions. HasAnsweredAll Gives office a questions c) (sym (flat_map-append (λ connection. connection.questions) bc.connections ab.connections))
      (left_then Gives office a b c _ _ ab.left bc.left);
}

pub served_nothing : {J : Type 0} {r : Ghosts J} (Gives : ℕ → Type 0) (office : Office J r) (a : Desk J r) → HasServed Gives office a a
served_nothing Gives office a = record { connections = []; asked = All-nil (IsAsked office); left = refl }

-- what was heard on a connection was served
pub heard_served : {J : Type 0} {r : Ghosts J} (Gives : ℕ → Type 0) (office : Office J r) (a b : Desk J r) (old new : Option (List ℕ)) (result : _)
    → HasHeard Gives office a old new result b → HasServed Gives office a b
heard_served Gives office a b old new result h = record {
  connections = h.connection ∷ [];
  asked = All-cons (IsAsked office) h.connection [] (h.left, h.last, h.asked) (All-nil (IsAsked office));
  left = subst (λ questions. HasAnsweredAll Gives office a questions b) (sym (append-nil h.connection.questions)) h.answered;
}
