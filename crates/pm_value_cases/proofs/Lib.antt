pub mod ContainersLemmas
