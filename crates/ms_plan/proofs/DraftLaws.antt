-- A draft keeps its rules where a line is added.
use Rattle.std.proofs.Common.{◌≡◌, ℕ, ◌/◌, ◌^◌, ◌<◌, ◌≤◌, true, false, List, [], ◌∷◌, ◌++◌, inl, inr, sym, ◌∙◌, subst, length, bytes_eq, arith, length-append}
use Rattle.std.specs.Prelude.{nat_le}
use Rattle.std.specs.List.{list_any}
use Rattle.std.proofs.lemmas.Bool.{leb-true}
use Rattle.ms_base.specs.Options.{both}
use Rattle.ms_plan.specs.Drafts.{AreLabels, AreNumbers, DraftView, IsCapacity, IsDraft, has_copies, labels_of}
use Rattle.ms_text.specs.Labels.{IsClientLabel}
use Rattle.ms_plan.specs.declared.config_line.ServiceLine.{ServiceLine}
use Rattle.ms_plan.proofs.LabelLists.{last_or, more_labels, used_labels, labels-push}

pub capacity_fits : (unit capacity : ℕ) → has_copies unit capacity ≡ true → IsCapacity unit capacity
capacity_fits unit capacity h =
    let b = both (nat_le 1 (capacity / unit)) (nat_le (capacity / unit) 16) h in
    record { some_copies = leb-true 1 (capacity / unit) b.0; few_copies = leb-true (capacity / unit) 16 b.1 }

pub service_kept : (draft : DraftView) (services : List ServiceLine) (service : ServiceLine) → IsDraft draft → services ≡ draft.services ++ service ∷ [] → length draft.clients ≡ 0 → length draft.services < 16
    → has_copies draft.unit service.capacity ≡ true → IsClientLabel service.label → list_any (λ (s : ServiceLine). bytes_eq s.label service.label) draft.services ≡ false
    → IsDraft (record draft { services = services })
service_kept draft services service h is none few copies form free = subst (λ (ss : List ServiceLine). IsDraft (record draft { services = ss })) (sym is) (record {
  some_replicas = h.some_replicas;
  few_replicas = h.few_replicas;
  some_unit = h.some_unit;
  few_services = omega (arith, length-append draft.services (service ∷ []));
  few_clients = h.few_clients;
  capacities = λ i s at.
      elim (last_or draft.services service s i at) [
        | inl there ↦ h.capacities i s there
        | inr new ↦ subst (λ (x : ServiceLine). IsCapacity draft.unit x.capacity) new.1 (capacity_fits draft.unit service.capacity copies)
      ];
  service_labels = subst AreLabels (sym (labels-push draft.services service))
      (more_labels (labels_of draft.services) service.label h.service_labels form (sym (used_labels draft.services service.label) ∙ free));
  client_labels = h.client_labels;
  enough = λ some. absurd (omega arith);
})

pub client_kept : (draft : DraftView) (clients : List (List ℕ)) (label : List ℕ) → IsDraft draft → clients ≡ draft.clients ++ label ∷ [] → draft.replicas ≤ length draft.services → length draft.clients < 16
    → IsClientLabel label → list_any (λ l. bytes_eq l label) draft.clients ≡ false → IsDraft (record draft { clients = clients })
client_kept draft clients label h is enough few form free = subst (λ (cs : List (List ℕ)). IsDraft (record draft { clients = cs })) (sym is) (record {
  some_replicas = h.some_replicas;
  few_replicas = h.few_replicas;
  some_unit = h.some_unit;
  few_services = h.few_services;
  few_clients = omega (arith, length-append draft.clients (label ∷ []));
  capacities = h.capacities;
  service_labels = h.service_labels;
  client_labels = more_labels draft.clients label h.client_labels form free;
  enough = λ some. enough;
})

pub numbers_kept : (draft : DraftView) (services : List ServiceLine) (service : ServiceLine) → AreNumbers draft → services ≡ draft.services ++ service ∷ [] → service.capacity < 2 ^ 64 → AreNumbers (record draft { services = services })
numbers_kept draft services service h is fits = subst (λ (ss : List ServiceLine). AreNumbers (record draft { services = ss })) (sym is) (record {
  unit = h.unit;
  capacities = λ i s at.
      elim (last_or draft.services service s i at) [
        | inl there ↦ h.capacities i s there
        | inr new ↦ subst (λ (x : ServiceLine). x.capacity < 2 ^ 64) new.1 fits
      ];
})
