mod FamilyLemmas
