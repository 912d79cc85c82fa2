mod Lists
mod Passes
mod Workers
mod Examples
