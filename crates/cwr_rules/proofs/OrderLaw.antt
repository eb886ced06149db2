-- The places follow the pattern of the order.
use Rattle.std.proofs.Common.{◌≡◌, ℕ, zero, suc, List, [], ◌∷◌, ◌++◌, map, Option, Some, None, refl, sym, ap, ◌∙◌, reverse, append_assoc, append-nil}
use Rattle.std.specs.Prelude.{replicate, option_and_then}
use Rattle.std.specs.List.{flat_map, cons_option}
use Rattle.std.proofs.lemmas.List.{reverse-append}
use Rattle.std.proofs.lemmas.List.Elements.{filter_map-append}
use Rattle.cwr_rules.specs.declared.last_block.LastBlock.{LastBlock}
use Rattle.cwr_rules.specs.declared.last_block.LastBlock.TheVariants.{Free, AtPublisher, AtWriter, AtOtherWriter, AtTitles}
use Rattle.cwr_rules.specs.declared.record.Record.{Record}
use Rattle.cwr_rules.specs.declared.record.Record.TheVariants.{Spu, Opu, Spt, Swr, Owr, Swt, Pwr, Alt, Xrf, Carried}
use Rattle.cwr_rules.specs.LastBlock.{opened, after_publisher_territory, after_writer_territory, after_link, next_block, last_block}
use Rattle.cwr_rules.specs.Order.{DetailType, SPU, OPU, SPT, SWR, OWR, SWT, PWR, ALT, XRF, OfWriter, ATerritory, ALink, Ending, ATitle, AReference, Block, OfPublisher, OfOtherPublisher, OfWriterOfSubmitter, OfOtherWriter, of_writer, ending, block, in_order, IsPrefix, detail_type, types}

abbrev step : LastBlock → DetailType → Option LastBlock
step place SPU = opened place AtPublisher
step place OPU = opened place Free
step place SWR = opened place AtWriter
step place OWR = opened place AtOtherWriter
step place SPT = after_publisher_territory place
step place SWT = after_writer_territory place
step place PWR = after_link place
step place ALT = Some AtTitles
step place XRF = Some AtTitles

abbrev step_of : LastBlock → Option DetailType → Option LastBlock
step_of place None = Some place
step_of place (Some t) = step place t

next_is : (place : LastBlock) (r : Record) → next_block place r ≡ step_of place (detail_type r)
next_is place (Spu a b) = refl
next_is place (Opu a b) = refl
next_is place (Spt a b c) = refl
next_is place (Swr a b) = refl
next_is place (Owr a) = refl
next_is place (Swt a b c) = refl
next_is place (Pwr a) = refl
next_is place Alt = refl
next_is place Xrf = refl
next_is place (Carried a) = refl

-- the place after the types, from the first on
abbrev goes : LastBlock → List DetailType → Option LastBlock
goes place [] = Some place
goes place (t ∷ ts) = option_and_then (λ next. goes next ts) (step place t)

goes_more : (ts : List DetailType) (place : LastBlock) (t : DetailType) → goes place (ts ++ t ∷ []) ≡ option_and_then (λ next. step next t) (goes place ts)
goes_more [] place t = last (step place t)
  where
    last : (o : Option LastBlock) → option_and_then (λ next. Some next) o ≡ o
    last None = refl
    last (Some p) = refl
goes_more (u ∷ ts) place t =
    elim (step place u) as (λ o. option_and_then (λ next. goes next (ts ++ t ∷ [])) o ≡ option_and_then (λ next. step next t) (option_and_then (λ next. goes next ts) o)) [
      | None ↦ refl
      | Some next ↦ goes_more ts next t
    ]

abbrev listed : Option DetailType → List DetailType
listed None = []
listed (Some t) = t ∷ []

one_type : (r : Record) → types (r ∷ []) ≡ listed (detail_type r)
one_type r = elim (detail_type r) as (λ o. cons_option o [] ≡ listed o) [ None ↦ refl | Some t ↦ refl ]

types_more : (r : Record) (before : List Record) → types (reverse (r ∷ before)) ≡ types (reverse before) ++ listed (detail_type r)
types_more r before = ap types (reverse-append (r ∷ []) before) ∙ filter_map-append detail_type (reverse before) (r ∷ []) ∙ ap (λ (xs : List DetailType). types (reverse before) ++ xs) (one_type r)

after_one : (ts : List DetailType) (o : Option DetailType) → goes Free (ts ++ listed o) ≡ option_and_then (λ place. step_of place o) (goes Free ts)
after_one ts None = ap (goes Free) (append-nil ts) ∙ sym (same (goes Free ts))
  where
    same : (o : Option LastBlock) → option_and_then (λ place. Some place) o ≡ o
    same None = refl
    same (Some p) = refl
after_one ts (Some t) = goes_more ts Free t

step_same : (r : Record) (o : Option LastBlock) → option_and_then (λ place. next_block place r) o ≡ option_and_then (λ place. step_of place (detail_type r)) o
step_same r None = refl
step_same r (Some p) = next_is p r

pub places : (before : List Record) → last_block before ≡ goes Free (types (reverse before))
places [] = refl
places (r ∷ before) =
    step_same r (last_block before)
    ∙ ap (λ (o : Option LastBlock). option_and_then (λ place. step_of place (detail_type r)) o) (places before)
    ∙ sym (after_one (types (reverse before)) (detail_type r))
    ∙ ap (goes Free) (sym (types_more r before))

abbrev IsWord : List DetailType → Type 0
IsWord ts = (blocks : List Block) × (endings : List Ending) × (ts ≡ in_order blocks endings)

abbrev IsRest : LastBlock → List DetailType → Type 0
IsRest Free ts = IsWord ts
IsRest AtPublisher ts = (n : ℕ) × (blocks : List Block) × (endings : List Ending) × (ts ≡ replicate n SPT ++ in_order blocks endings)
IsRest AtWriter ts = (ws : List OfWriter) × (blocks : List Block) × (endings : List Ending) × (ts ≡ map of_writer ws ++ in_order blocks endings)
IsRest AtOtherWriter ts = (n : ℕ) × (blocks : List Block) × (endings : List Ending) × (ts ≡ replicate n PWR ++ in_order blocks endings)
IsRest AtTitles ts = (endings : List Ending) × (ts ≡ map ending endings)

rest_Free : (ts : List DetailType) → IsWord ts → IsRest Free ts
rest_Free ts w = w

rest_Publisher : (ts : List DetailType) → IsWord ts → IsRest AtPublisher ts
rest_Publisher ts w = (0, w.0, w.1, w.2)

rest_Writer : (ts : List DetailType) → IsWord ts → IsRest AtWriter ts
rest_Writer ts w = ([], w.0, w.1, w.2)

rest_OtherWriter : (ts : List DetailType) → IsWord ts → IsRest AtOtherWriter ts
rest_OtherWriter ts w = (0, w.0, w.1, w.2)

word_SPU : (ts : List DetailType) → IsRest AtPublisher ts → IsWord (SPU ∷ ts)
word_SPU ts r = (OfPublisher r.0 ∷ r.1, r.2, ap (λ (xs : List DetailType). SPU ∷ xs) r.3 ∙ ap (λ (xs : List DetailType). SPU ∷ xs) (sym (append_assoc (replicate r.0 SPT) (flat_map block r.1) (map ending r.2))))

word_OPU : (ts : List DetailType) → IsRest Free ts → IsWord (OPU ∷ ts)
word_OPU ts r = (OfOtherPublisher ∷ r.0, r.1, ap (λ (xs : List DetailType). OPU ∷ xs) r.2)

word_SWR : (ts : List DetailType) → IsRest AtWriter ts → IsWord (SWR ∷ ts)
word_SWR ts r = (OfWriterOfSubmitter r.0 ∷ r.1, r.2, ap (λ (xs : List DetailType). SWR ∷ xs) r.3 ∙ ap (λ (xs : List DetailType). SWR ∷ xs) (sym (append_assoc (map of_writer r.0) (flat_map block r.1) (map ending r.2))))

word_OWR : (ts : List DetailType) → IsRest AtOtherWriter ts → IsWord (OWR ∷ ts)
word_OWR ts r = (OfOtherWriter r.0 ∷ r.1, r.2, ap (λ (xs : List DetailType). OWR ∷ xs) r.3 ∙ ap (λ (xs : List DetailType). OWR ∷ xs) (sym (append_assoc (replicate r.0 PWR) (flat_map block r.1) (map ending r.2))))

word_ALT : (ts : List DetailType) → IsRest AtTitles ts → IsWord (ALT ∷ ts)
word_ALT ts r = ([], ATitle ∷ r.0, ap (λ (xs : List DetailType). ALT ∷ xs) r.1)

word_XRF : (ts : List DetailType) → IsRest AtTitles ts → IsWord (XRF ∷ ts)
word_XRF ts r = ([], AReference ∷ r.0, ap (λ (xs : List DetailType). XRF ∷ xs) r.1)

sound : (ts : List DetailType) (place last : LastBlock) → goes place ts ≡ Some last → IsRest place ts
sound [] Free last h = ([], [], refl)
sound [] AtPublisher last h = (0, [], [], refl)
sound [] AtWriter last h = ([], [], [], refl)
sound [] AtOtherWriter last h = (0, [], [], refl)
sound [] AtTitles last h = ([], refl)
sound (SPU ∷ ts) Free last h = rest_Free (SPU ∷ ts) (word_SPU ts (sound ts AtPublisher last h))
sound (SPU ∷ ts) AtPublisher last h = rest_Publisher (SPU ∷ ts) (word_SPU ts (sound ts AtPublisher last h))
sound (SPU ∷ ts) AtWriter last h = rest_Writer (SPU ∷ ts) (word_SPU ts (sound ts AtPublisher last h))
sound (SPU ∷ ts) AtOtherWriter last h = rest_OtherWriter (SPU ∷ ts) (word_SPU ts (sound ts AtPublisher last h))
sound (SPU ∷ ts) AtTitles last h = absurd cc
sound (OPU ∷ ts) Free last h = rest_Free (OPU ∷ ts) (word_OPU ts (sound ts Free last h))
sound (OPU ∷ ts) AtPublisher last h = rest_Publisher (OPU ∷ ts) (word_OPU ts (sound ts Free last h))
sound (OPU ∷ ts) AtWriter last h = rest_Writer (OPU ∷ ts) (word_OPU ts (sound ts Free last h))
sound (OPU ∷ ts) AtOtherWriter last h = rest_OtherWriter (OPU ∷ ts) (word_OPU ts (sound ts Free last h))
sound (OPU ∷ ts) AtTitles last h = absurd cc
sound (SWR ∷ ts) Free last h = rest_Free (SWR ∷ ts) (word_SWR ts (sound ts AtWriter last h))
sound (SWR ∷ ts) AtPublisher last h = rest_Publisher (SWR ∷ ts) (word_SWR ts (sound ts AtWriter last h))
sound (SWR ∷ ts) AtWriter last h = rest_Writer (SWR ∷ ts) (word_SWR ts (sound ts AtWriter last h))
sound (SWR ∷ ts) AtOtherWriter last h = rest_OtherWriter (SWR ∷ ts) (word_SWR ts (sound ts AtWriter last h))
sound (SWR ∷ ts) AtTitles last h = absurd cc
sound (OWR ∷ ts) Free last h = rest_Free (OWR ∷ ts) (word_OWR ts (sound ts AtOtherWriter last h))
sound (OWR ∷ ts) AtPublisher last h = rest_Publisher (OWR ∷ ts) (word_OWR ts (sound ts AtOtherWriter last h))
sound (OWR ∷ ts) AtWriter last h = rest_Writer (OWR ∷ ts) (word_OWR ts (sound ts AtOtherWriter last h))
sound (OWR ∷ ts) AtOtherWriter last h = rest_OtherWriter (OWR ∷ ts) (word_OWR ts (sound ts AtOtherWriter last h))
sound (OWR ∷ ts) AtTitles last h = absurd cc
sound (ALT ∷ ts) Free last h = rest_Free (ALT ∷ ts) (word_ALT ts (sound ts AtTitles last h))
sound (ALT ∷ ts) AtPublisher last h = rest_Publisher (ALT ∷ ts) (word_ALT ts (sound ts AtTitles last h))
sound (ALT ∷ ts) AtWriter last h = rest_Writer (ALT ∷ ts) (word_ALT ts (sound ts AtTitles last h))
sound (ALT ∷ ts) AtOtherWriter last h = rest_OtherWriter (ALT ∷ ts) (word_ALT ts (sound ts AtTitles last h))
sound (ALT ∷ ts) AtTitles last h = let r = sound ts AtTitles last h in (ATitle ∷ r.0, ap (λ (xs : List DetailType). ALT ∷ xs) r.1)
sound (XRF ∷ ts) Free last h = rest_Free (XRF ∷ ts) (word_XRF ts (sound ts AtTitles last h))
sound (XRF ∷ ts) AtPublisher last h = rest_Publisher (XRF ∷ ts) (word_XRF ts (sound ts AtTitles last h))
sound (XRF ∷ ts) AtWriter last h = rest_Writer (XRF ∷ ts) (word_XRF ts (sound ts AtTitles last h))
sound (XRF ∷ ts) AtOtherWriter last h = rest_OtherWriter (XRF ∷ ts) (word_XRF ts (sound ts AtTitles last h))
sound (XRF ∷ ts) AtTitles last h = let r = sound ts AtTitles last h in (AReference ∷ r.0, ap (λ (xs : List DetailType). XRF ∷ xs) r.1)
sound (SPT ∷ ts) Free last h = absurd cc
sound (SPT ∷ ts) AtPublisher last h = let r = sound ts AtPublisher last h in (suc r.0, r.1, r.2, ap (λ (xs : List DetailType). SPT ∷ xs) r.3)
sound (SPT ∷ ts) AtWriter last h = absurd cc
sound (SPT ∷ ts) AtOtherWriter last h = absurd cc
sound (SPT ∷ ts) AtTitles last h = absurd cc
sound (SWT ∷ ts) Free last h = absurd cc
sound (SWT ∷ ts) AtPublisher last h = absurd cc
sound (SWT ∷ ts) AtWriter last h = let r = sound ts AtWriter last h in (ATerritory ∷ r.0, r.1, r.2, ap (λ (xs : List DetailType). SWT ∷ xs) r.3)
sound (SWT ∷ ts) AtOtherWriter last h = absurd cc
sound (SWT ∷ ts) AtTitles last h = absurd cc
sound (PWR ∷ ts) Free last h = absurd cc
sound (PWR ∷ ts) AtPublisher last h = absurd cc
sound (PWR ∷ ts) AtWriter last h = let r = sound ts AtWriter last h in (ALink ∷ r.0, r.1, r.2, ap (λ (xs : List DetailType). PWR ∷ xs) r.3)
sound (PWR ∷ ts) AtOtherWriter last h = let r = sound ts AtOtherWriter last h in (suc r.0, r.1, r.2, ap (λ (xs : List DetailType). PWR ∷ xs) r.3)
sound (PWR ∷ ts) AtTitles last h = absurd cc

-- each prefix of a list in order goes through

spt_goes : (n : ℕ) (ts : List DetailType) → goes AtPublisher (replicate n SPT ++ ts) ≡ goes AtPublisher ts
spt_goes zero ts = refl
spt_goes (suc n) ts = spt_goes n ts

pwr_goes : (n : ℕ) (ts : List DetailType) → goes AtOtherWriter (replicate n PWR ++ ts) ≡ goes AtOtherWriter ts
pwr_goes zero ts = refl
pwr_goes (suc n) ts = pwr_goes n ts

writer_goes : (ws : List OfWriter) (ts : List DetailType) → goes AtWriter (map of_writer ws ++ ts) ≡ goes AtWriter ts
writer_goes [] ts = refl
writer_goes (ATerritory ∷ ws) ts = writer_goes ws ts
writer_goes (ALink ∷ ws) ts = writer_goes ws ts

abbrev Goes : LastBlock → List DetailType → Type 0
Goes place ts = (last : LastBlock) × (goes place ts ≡ Some last)

titles_go : (endings : List Ending) → Goes AtTitles (map ending endings)
titles_go [] = (AtTitles, refl)
titles_go (ATitle ∷ es) = titles_go es
titles_go (AReference ∷ es) = titles_go es

endings_go : (endings : List Ending) (place : LastBlock) → Goes place (map ending endings)
endings_go [] place = (place, refl)
endings_go (ATitle ∷ es) place = titles_go es
endings_go (AReference ∷ es) place = titles_go es

block_goes : (b : Block) (ts : List DetailType) → ((place : LastBlock) → opened place Free ≡ Some Free → Goes place ts) → (place : LastBlock) → opened place Free ≡ Some Free → Goes place (block b ++ ts)
block_goes (OfPublisher n) ts h Free o = let r = h AtPublisher refl in (r.0, spt_goes n ts ∙ r.1)
block_goes (OfPublisher n) ts h AtPublisher o = let r = h AtPublisher refl in (r.0, spt_goes n ts ∙ r.1)
block_goes (OfPublisher n) ts h AtWriter o = let r = h AtPublisher refl in (r.0, spt_goes n ts ∙ r.1)
block_goes (OfPublisher n) ts h AtOtherWriter o = let r = h AtPublisher refl in (r.0, spt_goes n ts ∙ r.1)
block_goes (OfPublisher n) ts h AtTitles o = absurd cc
block_goes OfOtherPublisher ts h Free o = h Free refl
block_goes OfOtherPublisher ts h AtPublisher o = h Free refl
block_goes OfOtherPublisher ts h AtWriter o = h Free refl
block_goes OfOtherPublisher ts h AtOtherWriter o = h Free refl
block_goes OfOtherPublisher ts h AtTitles o = absurd cc
block_goes (OfWriterOfSubmitter ws) ts h Free o = let r = h AtWriter refl in (r.0, writer_goes ws ts ∙ r.1)
block_goes (OfWriterOfSubmitter ws) ts h AtPublisher o = let r = h AtWriter refl in (r.0, writer_goes ws ts ∙ r.1)
block_goes (OfWriterOfSubmitter ws) ts h AtWriter o = let r = h AtWriter refl in (r.0, writer_goes ws ts ∙ r.1)
block_goes (OfWriterOfSubmitter ws) ts h AtOtherWriter o = let r = h AtWriter refl in (r.0, writer_goes ws ts ∙ r.1)
block_goes (OfWriterOfSubmitter ws) ts h AtTitles o = absurd cc
block_goes (OfOtherWriter n) ts h Free o = let r = h AtOtherWriter refl in (r.0, pwr_goes n ts ∙ r.1)
block_goes (OfOtherWriter n) ts h AtPublisher o = let r = h AtOtherWriter refl in (r.0, pwr_goes n ts ∙ r.1)
block_goes (OfOtherWriter n) ts h AtWriter o = let r = h AtOtherWriter refl in (r.0, pwr_goes n ts ∙ r.1)
block_goes (OfOtherWriter n) ts h AtOtherWriter o = let r = h AtOtherWriter refl in (r.0, pwr_goes n ts ∙ r.1)
block_goes (OfOtherWriter n) ts h AtTitles o = absurd cc

word_goes : (blocks : List Block) (endings : List Ending) (place : LastBlock) → opened place Free ≡ Some Free → Goes place (in_order blocks endings)
word_goes [] endings place o = endings_go endings place
word_goes (b ∷ blocks) endings place o =
    let r = block_goes b (in_order blocks endings) (word_goes blocks endings) place o in
    (r.0, ap (goes place) (append_assoc (block b) (flat_map block blocks) (map ending endings)) ∙ r.1)

prefix_goes : (ts rest : List DetailType) (place last : LastBlock) → goes place (ts ++ rest) ≡ Some last → Goes place ts
prefix_goes [] rest place last h = (place, refl)
prefix_goes (t ∷ ts) rest place last h =
    let P : Option LastBlock → Type 0 = λ o. option_and_then (λ next. goes next (ts ++ rest)) o ≡ Some last → (end : LastBlock) × (option_and_then (λ next. goes next ts) o ≡ Some end) in
    (elim (step place t) as P [
      | None ↦ λ e. absurd cc
      | Some next ↦ λ e. prefix_goes ts rest next last e
    ]) h

pub prefix_from_place : (before : List Record) (last : LastBlock) → last_block before ≡ Some last → IsPrefix (types (reverse before))
prefix_from_place before last h =
    let w = sound (types (reverse before)) Free last (sym (places before) ∙ h) in
    (w.0, w.1, [], append-nil (types (reverse before)) ∙ w.2)

pub place_from_prefix : (before : List Record) → IsPrefix (types (reverse before)) → (last : LastBlock) × (last_block before ≡ Some last)
place_from_prefix before p =
    let whole = word_goes p.0 p.1 Free refl in
    let r = prefix_goes (types (reverse before)) p.2 Free whole.0 (ap (goes Free) p.3 ∙ whole.1) in
    (r.0, places before ∙ r.1)
