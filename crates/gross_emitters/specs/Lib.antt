pub mod GrossEmitters
