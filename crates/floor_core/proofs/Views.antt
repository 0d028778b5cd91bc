-- What each tenant sees of a run is its own run.
use Rattle.std.proofs.Common.{◌≡◌, ◌<◌, ◌≤◌, ◌+◌, ℕ, List, [], ◌∷◌, ◌++◌, length, get_or, take, refl, inl, inr, sym, ap, subst, ◌∙◌, arith}
use Rattle.std.proofs.lemmas.Bool.{eq-eqb, ne_eqb}
use Rattle.std.proofs.lemmas.Bool.Decides.{eqb_tells}
use Rattle.std.proofs.lemmas.List.{take_more, take_all}
use Rattle.floor_core.specs.World.{Tenant, World, Hand, Owner, put, reply_alone, after_alone, run_alone, left_alone, owner, hands_after, owners, own_steps, seen_by, hands_left, NobodysAreRight, AreOutputs, IsLeft}
use Rattle.floor_core.specs.Worlds.{says, tenants_after, reply, world_after, replies, after_all}
use Rattle.floor_core.specs.declared.step.Output.{Output}
use Rattle.floor_core.specs.declared.step.Step.{Step}
use Rattle.floor_core.proofs.Calls.{put-same, put-other}

-- what a run is to tenant t
pub record SeesItsOwn (t : ℕ) (w : World) (steps : List Step) : Type 0 where
  pub told : seen_by t (owners w.hands steps (replies w steps)) (replies w steps) ≡ run_alone (w.tenants t) (own_steps t (owners w.hands steps (replies w steps)))
  pub left : left_alone (w.tenants t) (own_steps t (owners w.hands steps (replies w steps))) ≡ (after_all w steps).tenants t

-- the same with the first step's owner known
record First (t : ℕ) (w m : World) (o : Owner) (os : List Owner) (xs : List Output) (last : Tenant) : Type 0 where
  told : seen_by t (o ∷ os) (says w o ∷ xs) ≡ run_alone (w.tenants t) (own_steps t (o ∷ os))
  left : left_alone (w.tenants t) (own_steps t (o ∷ os)) ≡ last

first : (t : ℕ) (w m : World) (o : Owner) (os : List Owner) (xs : List Output) (last : Tenant) → m.tenants ≡ tenants_after w o
    → seen_by t os xs ≡ run_alone (m.tenants t) (own_steps t os) → left_alone (m.tenants t) (own_steps t os) ≡ last → First t w m o os xs last
first t w m (Owner.Nobody out) os xs last e told left =
    let here : m.tenants t ≡ w.tenants t = ap (λ (f : ℕ → Tenant). f t) e in
    record { told = told ∙ ap (λ (s : Tenant). run_alone s (own_steps t os)) here; left = ap (λ (s : Tenant). left_alone s (own_steps t os)) (sym here) ∙ left }
first t w m (Owner.Own u e) os xs last same told left =
    elim (eqb_tells u t) [
      | inl a ↦
          let here : m.tenants t ≡ after_alone (w.tenants t) e =
          ap (λ (f : ℕ → Tenant). f t) same ∙ ap (put w.tenants u (after_alone (w.tenants u) e)) (sym a.1) ∙ put-same w.tenants u (after_alone (w.tenants u) e) ∙ ap (λ x. after_alone (w.tenants x) e) a.1 in
          record {
            told = rw a.0 (ap (λ x. reply_alone (w.tenants x) e ∷ seen_by t os xs) a.1 ∙ ap (λ (ys : List Output). reply_alone (w.tenants t) e ∷ ys) (told ∙ ap (λ (s : Tenant). run_alone s (own_steps t os)) here));
            left = rw a.0 (ap (λ (s : Tenant). left_alone s (own_steps t os)) (sym here) ∙ left);
          }
      | inr a ↦
          let here : m.tenants t ≡ w.tenants t = ap (λ (f : ℕ → Tenant). f t) same ∙ put-other w.tenants u (after_alone (w.tenants u) e) t (λ h. a.1 (sym h)) in
          record {
            told = rw a.0 (told ∙ ap (λ (s : Tenant). run_alone s (own_steps t os)) here);
            left = rw a.0 (ap (λ (s : Tenant). left_alone s (own_steps t os)) (sym here) ∙ left);
          }
    ]

pub sees_its_own : (t : ℕ) (w : World) (steps : List Step) → SeesItsOwn t w steps
sees_its_own t w [] = record { told = refl; left = refl }
sees_its_own t w (s ∷ ss) =
    let ih = sees_its_own t (world_after w s) ss in
    let f = first t w (world_after w s) (owner w.hands s) (owners (world_after w s).hands ss (replies (world_after w s) ss)) (replies (world_after w s) ss) ((after_all (world_after w s) ss).tenants t) refl ih.told ih.left in
    record { told = f.told; left = f.left }

nobodys_first : (w : World) (o : Owner) (os : List Owner) (xs : List Output) → NobodysAreRight os xs → NobodysAreRight (o ∷ os) (says w o ∷ xs)
nobodys_first w (Owner.Own u e) os xs ih = ih
nobodys_first w (Owner.Nobody out) os xs ih = (refl, ih)

nobodys_are_right : (w : World) (steps : List Step) → NobodysAreRight (owners w.hands steps (replies w steps)) (replies w steps)
nobodys_are_right w [] = tt
nobodys_are_right w (s ∷ ss) = nobodys_first w (owner w.hands s) (owners (world_after w s).hands ss (replies (world_after w s) ss)) (replies (world_after w s) ss) (nobodys_are_right (world_after w s) ss)

length-replies : (w : World) (steps : List Step) → length (replies w steps) ≡ length steps
length-replies w [] = refl
length-replies w (s ∷ ss) = let ih = length-replies (world_after w s) ss in omega arith

hands_run : (w : World) (steps : List Step) → (after_all w steps).hands ≡ hands_left w.hands steps (replies w steps)
hands_run w [] = refl
hands_run w (s ∷ ss) = hands_run (world_after w s) ss

pub are_replies : (w : World) (steps : List Step) → AreOutputs w steps (replies w steps)
are_replies w steps = record {
  each_step = length-replies w steps;
  alone = λ t. (sees_its_own t w steps).told;
  nobodys = nobodys_are_right w steps;
}

pub is_after : (w : World) (steps : List Step) → IsLeft w steps (replies w steps) (after_all w steps)
is_after w steps = record { alone = λ t. (sees_its_own t w steps).left; hands = hands_run w steps }

-- ---- a run goes on by one step

replies-more : (w : World) (ss : List Step) (s : Step) → replies w (ss ++ s ∷ []) ≡ replies w ss ++ reply (after_all w ss) s ∷ []
replies-more w [] s = refl
replies-more w (x ∷ ss) s = ap (λ (ys : List Output). reply w x ∷ ys) (replies-more (world_after w x) ss s)

after_all-more : (w : World) (ss : List Step) (s : Step) → after_all w (ss ++ s ∷ []) ≡ world_after (after_all w ss) s
after_all-more w [] s = refl
after_all-more w (x ∷ ss) s = after_all-more (world_after w x) ss s

-- one more step, as a loop has it
pub run_more : (w m : World) (steps : List Step) (i : ℕ) (s : Step) (outs : List Output) → i < length steps → s ≡ get_or steps i s → outs ≡ replies w (take i steps) → m ≡ after_all w (take i steps)
    → (outs ++ reply m s ∷ [] ≡ replies w (take (i + 1) steps)) × (world_after m s ≡ after_all w (take (i + 1) steps))
run_more w m steps i s outs lt at told moved =
    let more : take (i + 1) steps ≡ take i steps ++ s ∷ [] = take_more steps i s lt ∙ ap (λ (x : Step). take i steps ++ x ∷ []) (sym at) in (
      rw (more, told, moved) (sym (replies-more w (take i steps) s)),
      rw (more, moved) (sym (after_all-more w (take i steps) s)),
    )

-- the outputs of a run, and the world after it
pub ran : (w : World) (steps : List Step) (outs : List Output) → outs ≡ replies w steps → AreOutputs w steps outs
ran w steps outs e = subst (λ (xs : List Output). AreOutputs w steps xs) (sym e) (are_replies w steps)

pub ended : (w m : World) (steps : List Step) (outs : List Output) → outs ≡ replies w steps → m ≡ after_all w steps → IsLeft w steps outs m
ended w m steps outs e g =
    subst (λ (x : World). IsLeft w steps outs x) (sym g) (subst (λ (xs : List Output). IsLeft w steps xs (after_all w steps)) (sym e) (is_after w steps))

-- the same where a loop is past the last step
pub ran_all : (w : World) (steps : List Step) (i : ℕ) (outs : List Output) → length steps ≤ i → outs ≡ replies w (take i steps) → AreOutputs w steps outs
ran_all w steps i outs le e = ran w steps outs (e ∙ ap (replies w) (take_all i steps le))

pub ended_all : (w m : World) (steps : List Step) (i : ℕ) (outs : List Output) → length steps ≤ i → outs ≡ replies w (take i steps) → m ≡ after_all w (take i steps) → IsLeft w steps outs m
ended_all w m steps i outs le e g =
    let all = take_all i steps le in
    ended w m steps outs (e ∙ ap (replies w) all) (g ∙ ap (after_all w) all)

-- the same where a loop stopped at a step
pub ran_so_far : (w : World) (steps : List Step) (i : ℕ) (outs : List Output) → length outs ≡ i → outs ≡ replies w (take i steps) → AreOutputs w (take (length outs) steps) outs
ran_so_far w steps i outs n e = ran w (take (length outs) steps) outs (e ∙ ap (λ (k : ℕ). replies w (take k steps)) (sym n))

pub ended_so_far : (w m : World) (steps : List Step) (i : ℕ) (outs : List Output) → length outs ≡ i → outs ≡ replies w (take i steps) → m ≡ after_all w (take i steps) → IsLeft w (take (length outs) steps) outs m
ended_so_far w m steps i outs n e g =
    let same = sym n in
    ended w m (take (length outs) steps) outs (e ∙ ap (λ (k : ℕ). replies w (take k steps)) same) (g ∙ ap (λ (k : ℕ). after_all w (take k steps)) same)

-- ---- laws

pub same_seen : (t : ℕ) (v w : World) (xs ys : List Step) (os ps : List Output) → v.tenants t ≡ w.tenants t → AreOutputs v xs os → AreOutputs w ys ps
    → own_steps t (owners v.hands xs os) ≡ own_steps t (owners w.hands ys ps) → seen_by t (owners v.hands xs os) os ≡ seen_by t (owners w.hands ys ps) ps
same_seen t v w xs ys os ps s a b m =
    a.alone t ∙ ap (λ (x : Tenant). run_alone x (own_steps t (owners v.hands xs os))) s ∙ ap (run_alone (w.tenants t)) m ∙ sym (b.alone t)

pub same_left : (t : ℕ) (v w : World) (xs ys : List Step) (os ps : List Output) (x y : World) → v.tenants t ≡ w.tenants t → IsLeft v xs os x → IsLeft w ys ps y
    → own_steps t (owners v.hands xs os) ≡ own_steps t (owners w.hands ys ps) → x.tenants t ≡ y.tenants t
same_left t v w xs ys os ps x y s a b m =
    sym (a.alone t) ∙ ap (λ (z : Tenant). left_alone z (own_steps t (owners v.hands xs os))) s ∙ ap (left_alone (w.tenants t)) m ∙ b.alone t

-- the first output is the one that it must be, and the rest is right after it
record Head (w : World) (o : Owner) (os : List Owner) (x : Output) (xs : List Output) : Type 0 where
  is : x ≡ says w o
  seen_is : (t : ℕ) → seen_by t os xs ≡ run_alone (tenants_after w o t) (own_steps t os)
  nobodys : NobodysAreRight os xs

same_head : (x y : Output) (xs ys : List Output) → x ∷ xs ≡ y ∷ ys → (x ≡ y) × (xs ≡ ys)
same_head x y xs ys e = (cc, cc)

head : (w : World) (o : Owner) (os : List Owner) (x : Output) (xs : List Output) → ((t : ℕ) → seen_by t (o ∷ os) (x ∷ xs) ≡ run_alone (w.tenants t) (own_steps t (o ∷ os)))
    → NobodysAreRight (o ∷ os) (x ∷ xs) → Head w o os x xs
head w (Owner.Nobody out) os x xs s n = record { is = n.0; seen_is = s; nobodys = n.1 }
head w (Owner.Own u e) os x xs s n =
    let own : (x ∷ seen_by u os xs) ≡ (reply_alone (w.tenants u) e ∷ run_alone (after_alone (w.tenants u) e) (own_steps u os)) = rw (eq-eqb u u refl) at (s u) in
    let p = same_head x (reply_alone (w.tenants u) e) (seen_by u os xs) (run_alone (after_alone (w.tenants u) e) (own_steps u os)) own in
    record {
      is = p.0;
      seen_is = λ t. elim (eqb_tells t u) [
        | inl a ↦ rw a.0 (ap (λ z. seen_by z os xs) a.1 ∙ p.1 ∙ ap (λ z. run_alone (after_alone (w.tenants u) e) (own_steps z os)) (sym a.1))
        | inr a ↦ rw a.0 (rw (ne_eqb u t (λ h. a.1 (sym h))) at (s t))
      ];
      nobodys = n;
    }

only_replies : (w : World) (steps : List Step) (outs : List Output) → length outs ≡ length steps
    → ((t : ℕ) → seen_by t (owners w.hands steps outs) outs ≡ run_alone (w.tenants t) (own_steps t (owners w.hands steps outs)))
    → NobodysAreRight (owners w.hands steps outs) outs → outs ≡ replies w steps
only_replies w [] [] l s n = refl
only_replies w [] (x ∷ xs) l s n = absurd (omega arith)
only_replies w (st ∷ sts) [] l s n = absurd (omega arith)
only_replies w (st ∷ sts) (x ∷ xs) l s n =
    let h = head w (owner w.hands st) (owners (hands_after w.hands st x) sts xs) x xs s n in
    let e : x ≡ reply w st = h.is in
    let same : hands_after w.hands st x ≡ (world_after w st).hands = ap (hands_after w.hands st) e in
    let rest : xs ≡ replies (world_after w st) sts = only_replies (world_after w st) sts xs (omega arith)
    (subst (λ (hs : ℕ → Hand). (t : ℕ) → seen_by t (owners hs sts xs) xs ≡ run_alone (tenants_after w (owner w.hands st) t) (own_steps t (owners hs sts xs))) same h.seen_is)
    (subst (λ (hs : ℕ → Hand). NobodysAreRight (owners hs sts xs) xs) same h.nobodys) in
    λ i. e i ∷ rest i

pub one_list : (w : World) (steps : List Step) (xs ys : List Output) → AreOutputs w steps xs → AreOutputs w steps ys → xs ≡ ys
one_list w steps xs ys a b = only_replies w steps xs a.each_step a.alone a.nobodys ∙ sym (only_replies w steps ys b.each_step b.alone b.nobodys)

-- ---- a run in two pieces

replies-append : (w : World) (ss more : List Step) → replies w (ss ++ more) ≡ replies w ss ++ replies (after_all w ss) more
replies-append w [] more = refl
replies-append w (s ∷ ss) more = ap (λ (ys : List Output). reply w s ∷ ys) (replies-append (world_after w s) ss more)

pub after_all-append : (w : World) (ss more : List Step) → after_all w (ss ++ more) ≡ after_all (after_all w ss) more
after_all-append w [] more = refl
after_all-append w (s ∷ ss) more = after_all-append (world_after w s) ss more

are_the_replies : (w : World) (steps : List Step) (xs : List Output) → AreOutputs w steps xs → xs ≡ replies w steps
are_the_replies w steps xs a = only_replies w steps xs a.each_step a.alone a.nobodys

-- outputs leave one world
one_world : (w x y : World) (steps : List Step) (xs : List Output) → IsLeft w steps xs x → IsLeft w steps xs y → x ≡ y
one_world w x y steps xs a b =
    let tenants : x.tenants ≡ y.tenants = λ i t. (sym (a.alone t) ∙ b.alone t) i in
    let hands : x.hands ≡ y.hands = a.hands ∙ sym b.hands in
    λ i. record { tenants = tenants i; hands = hands i }

-- and it is that after all the steps
is_the_world : (w m : World) (steps : List Step) (xs : List Output) → AreOutputs w steps xs → IsLeft w steps xs m → m ≡ after_all w steps
is_the_world w m steps xs a l =
    one_world w m (after_all w steps) steps (replies w steps) (subst (λ (ys : List Output). IsLeft w steps ys m) (are_the_replies w steps xs a) l) (is_after w steps)

both_replies : (w m : World) (ss more : List Step) (xs ys : List Output) → AreOutputs w ss xs → IsLeft w ss xs m → AreOutputs m more ys → xs ++ ys ≡ replies w (ss ++ more)
both_replies w m ss more xs ys a l b =
    ap (λ (os : List Output). os ++ ys) (are_the_replies w ss xs a)
    ∙ (ap (λ (os : List Output). replies w ss ++ os) (are_the_replies m more ys b ∙ ap (λ (x : World). replies x more) (is_the_world w m ss xs a l))
    ∙ sym (replies-append w ss more))

pub outputs_of_both : (w m : World) (ss more : List Step) (xs ys : List Output) → AreOutputs w ss xs → IsLeft w ss xs m → AreOutputs m more ys → AreOutputs w (ss ++ more) (xs ++ ys)
outputs_of_both w m ss more xs ys a l b = ran w (ss ++ more) (xs ++ ys) (both_replies w m ss more xs ys a l b)

pub left_by_both : (w m last : World) (ss more : List Step) (xs ys : List Output) → AreOutputs w ss xs → IsLeft w ss xs m → AreOutputs m more ys → IsLeft m more ys last
    → IsLeft w (ss ++ more) (xs ++ ys) last
left_by_both w m last ss more xs ys a l b k =
    ended w last (ss ++ more) (xs ++ ys) (both_replies w m ss more xs ys a l b)
    (is_the_world m last more ys b k ∙ (ap (λ (x : World). after_all x more) (is_the_world w m ss xs a l) ∙ sym (after_all-append w ss more)))
