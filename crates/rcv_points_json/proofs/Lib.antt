mod Examples
mod Lists
mod Whole
mod Said
